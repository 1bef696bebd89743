-- A text is refused or is read, not both, and each command has one output or one status: so `rticx` is lawful.
use Rattle.std.specs.Str.Lines.{lines}
use Rattle.std.proofs.Common.{◌≡◌, ℕ, Bool, true, false, if◌then◌else◌, List, inl, inr, refl, sym, ap, subst, ◌∙◌}
use Rattle.std.proofs.Common.{arith}
use Rattle.rt_lemmas.proofs.Bools.{true_and_false}
use Rattle.rt_ids.specs.declared.status.Status.{Status}
use Rattle.rt_ids.specs.declared.status.Status.TheVariants as status
use Rattle.rt_app.specs.Names.{names_of}
use Rattle.rt_app.specs.Tree.{App}
use Rattle.rt_build.specs.Accepted.{IsApplication}
use Rattle.rt_build.specs.Built.{IsBuilt}
use Rattle.rt_build.proofs.OneImage.{one_is_built}
use Rattle.rt_code.specs.Image.{Image}
use Rattle.rt_native.specs.Fitting.{Fits}
use Rattle.rt_baker.specs.declared.verdict.Verdict.{Verdict}
use Rattle.rt_baker.specs.declared.verdict.Verdict.TheVariants as judged
use Rattle.rt_lines.specs.Refusal.{too_long, first_wrong, no_memory}
use Rattle.rt_lines.specs.declared.refusal.TextRefused.{TextRefused}
use Rattle.rt_lines.proofs.Reading.{read_one_way}
use Rattle.rt_board.specs.Board as boards
use Rattle.rt_given.specs.Reading.{IsGivenText, given_reader}
use Rattle.rt_given.specs.Reading as given
use Rattle.rt_given.specs.declared.line.GivenLine.{GivenLine}
use Rattle.rt_given.specs.declared.refusal.Cause as in_script
use Rattle.rt_inputs_audit.specs.Audit.{IsVerdictBeside, JudgedBeside}
use Rattle.rt_inputs_audit.specs.Reading.{Told, Standing, IsInputsText, inputs_reader}
use Rattle.rt_inputs_audit.specs.Reading as trace
use Rattle.rt_inputs_audit.specs.declared.refusal.Cause as in_trace
use Rattle.rt_image_times.specs.Form.{requests_itself}
use Rattle.rt_image_times.specs.Text as image_limits
use Rattle.rt_image_times.specs.Text.{IsImageLimitsText, image_limits_reader}
use Rattle.rt_load.proofs.OneWay as listings
use Rattle.rt_load.specs.Reading.{IsListingText}
use Rattle.rt_rta.specs.declared.limits.Limit.{Limit}
use Rattle.rt_rta.specs.declared.refusal.LimitsRefused.{LimitsRefused}
use Rattle.rt_points.specs.Checked.{IsChecked}
use Rattle.rt_respond.specs.Answer.{IsAnswer}
use Rattle.rt_respond.specs.Limits.{Limits}
use Rattle.rt_respond.specs.Text.{IsLimitsText, limits_reader}
use Rattle.rt_respond.specs.Text as limits_text
use Rattle.rt_respond.specs.declared.refusal.Cause as in_limits
use Rattle.rt_respond.proofs.Answering.{one_is_late}
use Rattle.rt_respond.proofs.Telling.{lead_fine}
use Rattle.rt_target.specs.Reading.{IsBoardOf, IsSetupOf, IsTargetOf, setup_reader, target_reader}
use Rattle.rt_target.specs.Reading as board
use Rattle.rt_target.specs.Setup.{Setup}
use Rattle.rt_target.specs.declared.refusal.Cause as in_board
use Rattle.rt_target.specs.declared.refusal.Cause.{Cause}
use Rattle.rt_target.specs.declared.refusal.Cause.TheVariants as cause
use Rattle.rt_trace.specs.Reading.{total_of}
use Rattle.rt_top.specs.Program.{Inputs, each_of}
use Rattle.rt_top.specs.SecondRefusal.{SaysLimits as SaysImageLimits}
use Rattle.rt_top.proofs.Due.{AreDue, due_as, SaysWhether, whether_once, AreOfKinds, IsLawful}
use Rattle.rt_top.proofs.Excluding.{application_passes, application_only, image_read}
use Rattle.rt_topx.specs.declared.command.Command.{Command}
use Rattle.rt_topx.specs.declared.command.Command.TheVariants as command
use Rattle.rt_topx.specs.Kinds.{TextKind, kinds_of, IsOfKind, IsRefusedBy}
use Rattle.rt_topx.specs.Kinds as kind
use Rattle.rt_topx.specs.Refusal.{RefusesBoard, RefusesTarget, RefusesLimits, RefusesImageLimits}
use Rattle.rt_topx.specs.Refusal.{RefusesBeside}
use Rattle.rt_topx.specs.Refusal.{SaysBoard, SaysLimits, SaysScript, SaysTrace}
use Rattle.rt_topx.specs.Responded.{IsResponded}
use Rattle.rt_topx.specs.Outputs.{IsAudited, Says, IsMadeNative}
use Rattle.rt_topx.specs.Executable.{Misfits, IsMade}
use Rattle.rt_topx.specs.Bounded as bounded
use Rattle.rt_topx.specs.Bounded.{TellsBounds, TellsTimedBounds, IsBoundedUnder}
use Rattle.rt_topx.specs.Explained.{Explains}
use Rattle.rt_topx.specs.Explained as explained
use Rattle.rt_topx.specs.Target.{target_of}
use Rattle.rt_topx.specs.Rticx.{IsOutputOf, rticx_program}
use Rattle.rt_topx.proofs.CommandWords.{one_command}

-- What is read is refused by no line.

-- a board, of an application
board_read : (app : App) (more line : List ℕ) (s : Setup) (r : TextRefused in_board.Cause) → IsSetupOf app more s
    → board.IsRefused app more r → SaysBoard r line → ⊥
board_read app more line s r is (too_long long) says = omega (arith, is.short, long)
board_read app more line s r is (first_wrong n w first) says =
    (read_one_way (setup_reader app)).not_both more s n w is first
board_read app more line s r is no_memory says = says

-- a board for which a program is made
target_read : (app : App) (more line : List ℕ) (s : Setup) (r : TextRefused in_board.Cause) → IsTargetOf app more s
    → board.IsTargetRefused app more r → SaysBoard r line → ⊥
target_read app more line s r is (too_long long) says = omega (arith, is.short, long)
target_read app more line s r is (first_wrong n w first) says =
    (read_one_way (target_reader app)).not_both more s n w is first
target_read app more line s r is no_memory says = says

-- limits for an application
limits_read : (app : App) (more line : List ℕ) (l : Limits) (r : TextRefused in_limits.Cause) → IsLimitsText app more l
    → limits_text.IsRefused app more r → SaysLimits r line → ⊥
limits_read app more line l r is (too_long long) says = omega (arith, is.short, long)
limits_read app more line l r is (first_wrong n w first) says =
    (read_one_way (limits_reader app)).not_both more l n w is first
limits_read app more line l r is no_memory says = says

-- limits for an image
image_limits_read : (img : Image) (more line : List ℕ) (l : List Limit) (r : LimitsRefused)
    → IsImageLimitsText img more l → image_limits.AreImageLimitsRefused img more r → SaysImageLimits r line → ⊥
image_limits_read img more line l r is (image_limits.too_long long) says = omega (arith, is.short, long)
image_limits_read img more line l r is (image_limits.first_wrong n w first) says =
    (read_one_way (image_limits_reader img)).not_both more l n w is first
image_limits_read img more line l r is image_limits.no_memory says = says

-- a script, over an application and beside a board
script_read : (app : App) (b : boards.Board) (more line : List ℕ) (s : List GivenLine) (r : TextRefused in_script.Cause)
    → IsGivenText (names_of app) app b more s → given.IsRefused (names_of app) app b more r → SaysScript r line → ⊥
script_read app b more line s r is (too_long long) says = omega (arith, is.short, long)
script_read app b more line s r is (first_wrong n w first) says =
    (read_one_way (given_reader (names_of app) app b)).not_both more s n w is first
script_read app b more line s r is no_memory says = says

-- a trace, likewise
trace_read : (app : App) (b : boards.Board) (more line : List ℕ) (told : Told) (r : TextRefused in_trace.Cause)
    → IsInputsText (names_of app) app b more told → trace.IsRefused (names_of app) app b more r → SaysTrace r line → ⊥
trace_read app b more line told r is (too_long long) says = omega (arith, is.leads.short, long)
trace_read app b more line told r is (first_wrong n w first) says =
    (read_one_way (inputs_reader (names_of app) app b)).not_both more is.reached n w is.leads first
trace_read app b more line told r is no_memory says = says

-- what a trace tells is one
told_only : (app : App) (b : boards.Board) (text : List ℕ) (one other : Told)
    → IsInputsText (names_of app) app b text one → IsInputsText (names_of app) app b text other → one ≡ other
told_only app b text one other is is' =
    let same : is.reached ≡ is'.reached =
    (read_one_way (inputs_reader (names_of app) app b)).one_state text is.reached is'.reached is.leads is'.leads in
    is.tells
    ∙ ap (λ (s : Standing). record { lines = s.lines; total = total_of s.phase }) same
    ∙ sym is'.tells

-- the board of a text is one
pub board_only : (app : App) (text : List ℕ) (a b : boards.Board) → IsBoardOf app text a → IsBoardOf app text b → a ≡ b
board_only app text a b one other =
    sym one.1
    ∙ ap (λ (s : Setup). s.board) ((read_one_way (setup_reader app)).one_state text one.0 other.0 one.2 other.2)
    ∙ other.1

-- and what it tells of a chip
target_only : (app : App) (text : List ℕ) (s u : Setup) → IsTargetOf app text s → IsTargetOf app text u → s ≡ u
target_only app text s u one other = (read_one_way (target_reader app)).one_state text s u one other

board_passes : (text more line : List ℕ) (app : App) → IsApplication text app → (b : boards.Board)
    → IsBoardOf app more b → RefusesBoard text more line → ⊥
board_passes text more line app is b read r =
    board_read r.app more line read.0 r.refusal
    (subst (λ a. IsSetupOf a more read.0) (application_only text app r.app is r.of_text) read.2) r.refused r.says

target_passes : (text more line : List ℕ) (app : App) → IsApplication text app → (s : Setup)
    → IsTargetOf app more s → RefusesTarget text more line → ⊥
target_passes text more line app is s read r =
    target_read r.app more line s r.refusal
    (subst (λ a. IsTargetOf a more s) (application_only text app r.app is r.of_text) read) r.refused r.says

limits_passes : (text more line : List ℕ) (app : App) → IsApplication text app → (l : Limits)
    → IsLimitsText app more l → RefusesLimits text more line → ⊥
limits_passes text more line app is l read r =
    limits_read r.app more line l r.refusal
    (subst (λ a. IsLimitsText a more l) (application_only text app r.app is r.of_text) read) r.refused r.says

image_limits_passes : (text more line : List ℕ) (img : Image) → IsListingText text img → (l : List Limit)
    → IsImageLimitsText img more l → RefusesImageLimits text more line → ⊥
image_limits_passes text more line img is l read r =
    image_limits_read r.image more line l r.refusal
    (subst (λ i. IsImageLimitsText i more l) (listings.read_one_way.one_image text img r.image is r.of_text) read)
    r.refused r.says

-- what is of a kind over an application and beside a board is not refused there
beside_passes : {S R : Type 0} (IsOf : App → boards.Board → List ℕ → S → Type 0)
    (IsRefused : App → boards.Board → List ℕ → R → Type 0) (Says : R → List ℕ → Type 0)
    → ((app : App) (b : boards.Board) (more line : List ℕ) (s : S) (r : R) → IsOf app b more s
    → IsRefused app b more r → Says r line → ⊥)
    → (text beside more line : List ℕ) (app : App) → IsApplication text app → (b : boards.Board)
    → IsBoardOf app beside b → (s : S) → IsOf app b more s → RefusesBeside IsRefused Says text beside more line → ⊥
beside_passes IsOf IsRefused Says excludes text beside more line app is b of_board s read r =
    let same : app ≡ r.app = application_only text app r.app is r.of_text in
    let on = subst (λ a. IsBoardOf a beside b) same of_board in
    let one : b ≡ r.board = board_only r.app beside b r.board on r.of_board in
    excludes r.app r.board more line s r.refusal
    (subst (λ c. IsOf r.app c more s) one (subst (λ a. IsOf a b more s) same read)) r.refused r.says

-- A text is of its kind or is refused, not both.
one_of_each : (k : TextKind) (t : Inputs) (text : List ℕ) (ended : Status) (line : List ℕ) → IsOfKind k t text
    → IsRefusedBy k t text ended line → ⊥
one_of_each kind.Application t text ended line (app, is) (told, r) = application_passes text line app is r
one_of_each kind.Board t text ended line (app, is, b, read) (told, r) =
    board_passes t.first text line app is b read r
one_of_each kind.Target t text ended line (app, is, s, read) (told, r) =
    target_passes t.first text line app is s read r
one_of_each kind.Limits t text ended line (app, is, l, read) (told, r) =
    limits_passes t.first text line app is l read r
one_of_each kind.Script t text ended line (app, is, b, of_board, script, read) (told, r) =
    beside_passes (λ a c. IsGivenText (names_of a) a c) (λ a c. given.IsRefused (names_of a) a c) SaysScript
    script_read t.first t.second text line app is b of_board script read r
one_of_each kind.Trace t text ended line (app, is, b, of_board, told, read) (as_told, r) =
    beside_passes (λ a c. IsInputsText (names_of a) a c) (λ a c. trace.IsRefused (names_of a) a c) SaysTrace
    trace_read t.first t.second text line app is b of_board told read r
one_of_each kind.Listing t text ended line (image, is) (told, (refusal, met, says)) =
    image_read text line image refusal is met says
one_of_each kind.ImageLimits t text ended line (image, is, l, read) (told, r) =
    image_limits_passes t.first text line image is l read r

-- a verdict says whether the lines are right
judged_so : (app : App) (b : boards.Board) (told : Told) (v : Verdict) (ended : Status) (bytes : List ℕ)
    → IsVerdictBeside app b told.lines told.total v → Says told v ended bytes
    → SaysWhether (JudgedBeside app b told.lines told.total) ended
judged_so app b told judged.Yes ended bytes is s = inl (s.0, is.judged)
judged_so app b told (judged.No n) ended bytes is s = inr (s.0, is.not_judged)

audited_so : (text beside more : List ℕ) (a b : Status) (x y : List ℕ) → IsAudited text beside more a x
    → IsAudited text beside more b y → AreDue a b
audited_so text beside more a b x y one other =
    let app : other.app ≡ one.app = application_only text other.app one.app other.of_text one.of_text in
    let on = subst (λ p. IsBoardOf p beside other.board) app other.of_board in
    let board : other.board ≡ one.board = board_only one.app beside other.board one.board on one.of_board in
    let read = subst (λ c. IsInputsText (names_of one.app) one.app c more other.told) board
    (subst (λ p. IsInputsText (names_of p) p other.board more other.told) app other.read) in
    let same : other.told ≡ one.told = told_only one.app one.board more other.told one.told read one.read in
    whether_once (JudgedBeside one.app one.board one.told.lines one.told.total) a b
    (judged_so one.app one.board one.told one.verdict a x one.is one.says)
    (subst (λ t. SaysWhether (JudgedBeside one.app one.board t.lines t.total) b) same
    (subst (λ c. SaysWhether (JudgedBeside one.app c other.told.lines other.told.total) b) board
    (subst (λ p. SaysWhether (JudgedBeside p other.board other.told.lines other.told.total) b) app
    (judged_so other.app other.board other.told other.verdict b y other.is other.says))))

-- an image that does not fit does not fit
misfit : (app : App) (image : Image) (setup : Setup) (why : Cause) → Misfits app image setup why
    → ¬ Fits image (target_of app setup)
misfit app image setup cause.TooFewLines is fits = is fits.0
misfit app image setup cause.SmallRam is fits = is.1 fits.1
misfit app image setup cause.SmallFlash is fits = is.2 fits.2
misfit app image setup cause.FarBranch is fits = is.3 fits.3
misfit app image setup cause.LongFile is fits = is.4 fits.4
misfit app image setup cause.TooLong is fits = absurd is
misfit app image setup cause.BadLine is fits = absurd is
misfit app image setup cause.UnknownTask is fits = absurd is
misfit app image setup cause.SoftwareTask is fits = absurd is
misfit app image setup cause.UnknownLocal is fits = absurd is
misfit app image setup cause.LocalOfAnother is fits = absurd is
misfit app image setup cause.NamedTwice is fits = absurd is
misfit app image setup cause.UnknownInterrupt is fits = absurd is
misfit app image setup cause.UnknownInput is fits = absurd is
misfit app image setup cause.OutOfRange is fits = absurd is
misfit app image setup cause.Overlap is fits = absurd is
misfit app image setup cause.TooFewBits is fits = absurd is
misfit app image setup cause.UnboundInterrupt is fits = absurd is
misfit app image setup cause.NoFlash is fits = absurd is
misfit app image setup cause.NoRam is fits = absurd is
misfit app image setup cause.NoPort is fits = absurd is
misfit app image setup cause.NoBits is fits = absurd is

made_once : (app : App) (image : Image) (text : List ℕ) (setup : Setup) (a b : Status) (x y : List ℕ)
    → IsMade app image text setup a x → IsMade app image text setup b y → AreDue a b
made_once app image text setup a b x y (inl w) (inl v) = due_as status.Done a b tt w.0 v.0
made_once app image text setup a b x y (inl w) (inr v) =
    let is = w.1 in absurd (misfit app image setup v.1 v.2 is.0)
made_once app image text setup a b x y (inr w) (inl v) =
    let is = v.1 in absurd (misfit app image setup w.1 w.2 is.0)
made_once app image text setup a b x y (inr w) (inr v) = due_as status.Text a b tt w.0 v.0

made_so : (text beside : List ℕ) (a b : Status) (x y : List ℕ) → IsMadeNative text beside a x
    → IsMadeNative text beside b y → AreDue a b
made_so text beside a b x y one other =
    let app : other.app ≡ one.app = application_only text other.app one.app other.of_text one.of_text in
    let on = subst (λ p. IsTargetOf p beside other.setup) app other.of_board in
    let setup : other.setup ≡ one.setup = target_only one.app beside other.setup one.setup on one.of_board in
    let built = subst (λ p. IsBuilt p other.image) app other.is.built in
    let image : other.image ≡ one.image = one_is_built one.app other.image one.image built one.is.built in
    made_once one.app one.image beside one.setup a b x y one.made
    (subst (λ i. IsMade one.app i beside one.setup b y) image
    (subst (λ s. IsMade one.app other.image beside s b y) setup
    (subst (λ p. IsMade p other.image beside other.setup b y) app other.made)))

-- an answer says whether the image is checked
bounded_so : (image : Image) (ended : Status) (bytes : List ℕ) → TellsBounds image ended bytes
    → SaysWhether (IsChecked image) ended
bounded_so image ended bytes (bounded.has_bounds b checked are hold) = inl (refl, checked)
bounded_so image ended bytes (bounded.breaks rule least) =
    inr (refl, λ (checked : IsChecked image). least.broken (checked least.rule))

-- so does one under limits, and whether requests come from outside alone
timed_so : (image : Image) (limits : List Limit) (ended : Status) (bytes : List ℕ)
    → TellsTimedBounds image limits ended bytes
    → SaysWhether (IsChecked image × (requests_itself image ≡ false)) ended
timed_so image limits ended bytes (bounded.has_times b rows checked none are hold times kept) =
    inl (refl, (checked, none))
timed_so image limits ended bytes (bounded.is_of_no_form checked asks) =
    inr (
      refl,
      λ (both : IsChecked image × (requests_itself image ≡ false)).
          true_and_false (requests_itself image) asks both.1,
    )
timed_so image limits ended bytes (bounded.breaks_one rule least) =
    inr (refl, λ (both : IsChecked image × (requests_itself image ≡ false)). least.broken (both.0 least.rule))

bounded_under_so : (text more : List ℕ) (a b : Status) (x y : List ℕ) → IsBoundedUnder text more a x
    → IsBoundedUnder text more b y → AreDue a b
bounded_under_so text more a b x y one other =
    let image : other.image ≡ one.image =
    listings.read_one_way.one_image text other.image one.image other.of_text one.of_text in
    whether_once (IsChecked one.image × (requests_itself one.image ≡ false)) a b
    (timed_so one.image one.limits a x one.tells)
    (subst (λ i. SaysWhether (IsChecked i × (requests_itself i ≡ false)) b) image
    (timed_so other.image other.limits b y other.tells))

explained_so : (image : Image) (ended : Status) (bytes : List ℕ) → Explains image ended bytes
    → SaysWhether (IsChecked image) ended
explained_so image ended bytes (explained.is_safe checked safe) = inl (refl, checked)
explained_so image ended bytes (explained.breaks w least is) =
    inr (refl, λ (checked : IsChecked image). least.broken (checked least.rule))

-- a status says whether no deadline is late
late_so : (late : Bool) (ended : Status) → ended ≡ (if late then status.No else status.Done)
    → SaysWhether (late ≡ false) ended
late_so true ended is = inr (is, λ (none : true ≡ false). cc)
late_so false ended is = inl (is, refl)

responded_so : (text more : List ℕ) (a b : Status) (x y : List ℕ) → IsResponded text more a x
    → IsResponded text more b y → AreDue a b
responded_so text more a b x y one other =
    let app : other.app ≡ one.app = application_only text other.app one.app other.of_text one.of_text in
    let read = subst (λ p. IsLimitsText p more other.limits) app other.read in
    let limits : other.limits ≡ one.limits =
    (read_one_way (limits_reader one.app)).one_state more other.limits one.limits read one.read in
    let is = subst (λ l. IsAnswer one.app l other.tells.answer) limits
    (subst (λ p. IsAnswer p other.limits other.tells.answer) app other.tells.is) in
    let late : other.tells.answer.is_late ≡ one.tells.answer.is_late =
    one_is_late one.app one.limits (lead_fine one.app (lines more) one.limits one.read.lead) other.tells.answer
    one.tells.answer is one.tells.is in
    whether_once (one.tells.answer.is_late ≡ false) a b (late_so one.tells.answer.is_late a one.tells.tells)
    (subst (λ l. SaysWhether (l ≡ false) b) late (late_so other.tells.answer.is_late b other.tells.tells))

-- a refusal has the status of its kind
one_refusal : (k : TextKind) (t : Inputs) (text : List ℕ) (a b : Status) (x y : List ℕ) → IsRefusedBy k t text a x
    → IsRefusedBy k t text b y → AreDue a b
one_refusal kind.Application t text a b x y r s = due_as status.App a b tt r.0 s.0
one_refusal kind.Board t text a b x y r s = due_as status.Text a b tt r.0 s.0
one_refusal kind.Target t text a b x y r s = due_as status.Text a b tt r.0 s.0
one_refusal kind.Limits t text a b x y r s = due_as status.Text a b tt r.0 s.0
one_refusal kind.Script t text a b x y r s = due_as status.Text a b tt r.0 s.0
one_refusal kind.Trace t text a b x y r s = due_as status.Text a b tt r.0 s.0
one_refusal kind.Listing t text a b x y r s = due_as status.Text a b tt r.0 s.0
one_refusal kind.ImageLimits t text a b x y r s = due_as status.Text a b tt r.0 s.0

-- where there is an output each text is of its kind
all_read : (c : Command) (t : Inputs) (ended : Status) (bytes : List ℕ) → IsOutputOf c t ended bytes
    → AreOfKinds rticx_program (kinds_of c) t (each_of t)
all_read command.Run t ended bytes (is, w) = (
  (w.app, w.is.of_text),
  ((w.app, w.is.of_text, w.board, w.of_board), ((w.app, w.is.of_text, w.board, w.of_board, w.script, w.read), tt)),
)
all_read command.Audit t ended bytes w = (
  (w.app, w.of_text),
  ((w.app, w.of_text, w.board, w.of_board), ((w.app, w.of_text, w.board, w.of_board, w.told, w.read), tt)),
)
all_read command.Live t ended bytes (is, w) = (
  (w.app, w.is.of_text),
  ((w.app, w.is.of_text, w.board, w.of_board), ((w.app, w.is.of_text, w.board, w.of_board, w.script, w.read), tt)),
)
all_read command.Native t ended bytes w = (
  (w.app, w.of_text),
  ((w.app, w.of_text, w.setup, w.of_board), tt),
)
all_read command.Why t ended bytes (image, is, explains) = ((image, is), tt)
all_read command.Cycles t ended bytes (is, w) = ((w.app, w.of_text), tt)
all_read command.Bounds t ended bytes (image, is, tells) = ((image, is), tt)
all_read command.TimedBounds t ended bytes w = (
  (w.image, w.of_text),
  ((w.image, w.of_text, w.limits, w.read), tt),
)
all_read command.Respond t ended bytes w = (
  (w.app, w.of_text),
  ((w.app, w.of_text, w.limits, w.read), tt),
)

one_output : (c : Command) (t : Inputs) (a b : Status) (x y : List ℕ) → IsOutputOf c t a x → IsOutputOf c t b y
    → AreDue a b
one_output command.Run t a b x y w v = due_as status.Done a b tt w.0 v.0
one_output command.Audit t a b x y w v = audited_so t.first t.second t.third a b x y w v
one_output command.Live t a b x y w v = due_as status.Done a b tt w.0 v.0
one_output command.Native t a b x y w v = made_so t.first t.second a b x y w v
one_output command.Why t a b x y (image, is, one) (other, is', told) =
    whether_once (IsChecked image) a b (explained_so image a x one)
    (subst (λ i. SaysWhether (IsChecked i) b) (listings.read_one_way.one_image t.first other image is' is)
    (explained_so other b y told))
one_output command.Cycles t a b x y w v = due_as status.Done a b tt w.0 v.0
one_output command.Bounds t a b x y (image, is, one) (other, is', told) =
    whether_once (IsChecked image) a b (bounded_so image a x one)
    (subst (λ i. SaysWhether (IsChecked i) b) (listings.read_one_way.one_image t.first other image is' is)
    (bounded_so other b y told))
one_output command.TimedBounds t a b x y w v = bounded_under_so t.first t.second a b x y w v
one_output command.Respond t a b x y w v = responded_so t.first t.second a b x y w v

pub lawful : IsLawful rticx_program
lawful = record {
  one_command = one_command;
  one_of_each = one_of_each;
  one_refusal = one_refusal;
  all_read = all_read;
  one_output = one_output;
}
