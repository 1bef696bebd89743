-- A text is refused or is read, not both, and each command has one output or one status: so `rtic` is lawful.
use Rattle.std.proofs.Common.{◌≡◌, ℕ, true, List, inl, inr, refl, sym, ap, subst, ◌∙◌, arith}
use Rattle.rt_ids.specs.Names.{Names}
use Rattle.rt_ids.specs.declared.status.Status.{Status}
use Rattle.rt_ids.specs.declared.status.Status.TheVariants as status
use Rattle.rt_ast.specs.Tree as tree
use Rattle.rt_grammar.specs.Text.{IsText}
use Rattle.rt_parse.proofs.WholeOnly.{text_only}
use Rattle.rt_parse.proofs.WholeRefused.{text_not_refused}
use Rattle.rt_app.specs.Names.{names_of}
use Rattle.rt_app.specs.Tree.{App}
use Rattle.rt_app.specs.Violation.{IsFirst}
use Rattle.rt_baker.specs.Audit.{IsVerdict, IsRight}
use Rattle.rt_baker.specs.declared.verdict.Verdict.{Verdict}
use Rattle.rt_baker.specs.declared.verdict.Verdict.TheVariants as judged
use Rattle.rt_build.specs.Accepted.{tree_violations, IsApplication}
use Rattle.rt_build.proofs.Firsts.{no_first}
use Rattle.rt_code.specs.Image.{Image}
use Rattle.rt_lines.proofs.Reading.{read_one_way}
use Rattle.rt_load.specs.Reading.{IsListingText}
use Rattle.rt_load.specs.Reading as loading
use Rattle.rt_load.specs.declared.refusal.LoadRefused.{LoadRefused}
use Rattle.rt_load.specs.declared.refusal.LoadRefused.TheVariants as in_image
use Rattle.rt_load.proofs.OneWay as listings
use Rattle.rt_points.specs.Checked.{IsChecked}
use Rattle.rt_resolve.specs.Resolved.{resolved_app}
use Rattle.rt_app.specs.Forms.{has_response_times, has_deepest_script}
use Rattle.rt_rta.specs.Text as limits
use Rattle.rt_rta.specs.declared.limits.Limit.{Limit}
use Rattle.rt_rta.specs.declared.refusal.LimitsRefused.{LimitsRefused}
use Rattle.rt_script.specs.Text as script
use Rattle.rt_script.specs.declared.line.Line.{Line}
use Rattle.rt_script.specs.declared.refusal.ScriptRefused.{ScriptRefused}
use Rattle.rt_trace.specs.Reading as trace
use Rattle.rt_trace.specs.Trace.{Trace}
use Rattle.rt_lines.specs.declared.operand.Wrong.TheVariants as trace_wrong
use Rattle.rt_trace.specs.declared.refusal.TraceRefused.{TraceRefused}
use Rattle.rt_trace.specs.declared.refusal.TraceRefused.TheVariants as in_trace
use Rattle.rt_trace.proofs.Stepping.{one_trace}
use Rattle.rt_top.specs.Words.{Command, Run, Check, Fmt, Build, Audit, Live, Soak, Demo, Deepest, Times, Verify, Pair}
use Rattle.rt_top.specs.Refusal.{RefusesText, RefusesApplication}
use Rattle.rt_top.specs.SecondRefusal.{RefusesOver, SaysScript, SaysTrace, SaysLimits}
use Rattle.rt_top.specs.Kinds.{TextKind, kinds_of, IsOfKind, IsRefusedBy}
use Rattle.rt_top.specs.Kinds as kind
use Rattle.rt_top.specs.Outputs.{Says, IsAudited, TellsDeepest, TellsTimes}
use Rattle.rt_top.specs.Outputs as outputs
use Rattle.rt_top.specs.Verified.{SaysImage, TellsImage}
use Rattle.rt_top.specs.Verified as verified
use Rattle.rt_top.specs.Program.{Inputs, each_of}
use Rattle.rt_top.specs.Rtic.{IsOutputOf, rtic_program}
use Rattle.rt_top.proofs.CommandWords.{one_command}
use Rattle.rt_top.proofs.Due.{AreDue, due_as, SaysWhether, whether_once, AreOfKinds, IsLawful}

-- What is read is refused by no line.

pub tree_passes : (text line : List ℕ) (a : tree.App) → IsText text a → RefusesText text line → ⊥
tree_passes text line a is (fault, met, says) = text_not_refused text a fault is met

pub application_passes : (text line : List ℕ) (app : App) → IsApplication text app → RefusesApplication text line → ⊥
application_passes text line app is (fault, inl met, says) = text_not_refused text is.tree fault is.text met
application_passes text line app is (fault, inr b, says) =
    no_first (tree_violations is.tree) b.broken.violation is.kept.rules
    (subst (λ t. IsFirst (tree_violations t) b.broken.violation) (text_only text b.tree is.tree b.text is.text)
    b.broken.first)

-- the application of a text is one
pub application_only : (text : List ℕ) (a b : App) → IsApplication text a → IsApplication text b → a ≡ b
application_only text a b one other =
    one.kept.same ∙ (ap resolved_app (text_only text one.tree other.tree one.text other.text) ∙ sym other.kept.same)

-- what is of a kind over the application of a text is not refused over it
passes : {S R : Type 0} (IsOf : App → List ℕ → S → Type 0) (IsRefused : App → List ℕ → R → Type 0)
    (Says : R → List ℕ → Type 0)
    → ((app : App) (more line : List ℕ) (s : S) (r : R) → IsOf app more s → IsRefused app more r → Says r line → ⊥)
    → (text more line : List ℕ) (app : App) → IsApplication text app → (s : S) → IsOf app more s
    → RefusesOver IsRefused Says text more line → ⊥
passes IsOf IsRefused Says excludes text more line app is s read r =
    excludes r.app more line s r.refusal
    (subst (λ a. IsOf a more s) (application_only text app r.app is r.of_text) read) r.refused r.says

-- a script, over the names
script_read : (names : Names) (more line : List ℕ) (s : List Line) (refusal : ScriptRefused)
    → script.IsScriptText names more s
    → script.IsScriptRefused names more refusal → SaysScript refusal line → ⊥
script_read names more line s refusal is (script.too_long long) says = omega (arith, is.short, long)
script_read names more line s refusal is (script.first_wrong n w first) says =
    (read_one_way (script.script_reader names)).not_both more s n w is first
script_read names more line s refusal is script.no_memory says = says

-- limits
limits_read : (app : App) (more line : List ℕ) (ls : List Limit) (refusal : LimitsRefused)
    → limits.IsLimitsText app more ls
    → limits.AreLimitsRefused app more refusal → SaysLimits refusal line → ⊥
limits_read app more line ls refusal is (limits.too_long long) says = omega (arith, is.short, long)
limits_read app more line ls refusal is (limits.first_wrong n w first) says =
    (read_one_way (limits.limits_reader app)).not_both more ls n w is first
limits_read app more line ls refusal is limits.no_memory says = says

-- a trace, over the names
trace_read : (names : Names) (more line : List ℕ) (shown : Trace) (refusal : TraceRefused)
    → trace.IsTraceText names more shown
    → trace.IsTraceRefused names more refusal → SaysTrace refusal line → ⊥
trace_read names more line shown in_trace.TooLong is met says = omega (arith, is.read.short, met)
trace_read names more line shown (in_trace.BadLine n) is met says =
    (read_one_way (trace.trace_reader names)).not_both more is.reached n trace_wrong.Form is.read met
trace_read names more line shown (in_trace.UnknownName n) is met says =
    (read_one_way (trace.trace_reader names)).not_both more is.reached n trace_wrong.Name is.read met
trace_read names more line shown in_trace.NoMemory is met says = says

judged_so : (app : App) (shown : Trace) (v : Verdict) (ended : Status) (bytes : List ℕ) → IsVerdict app shown v
    → Says shown v ended bytes → SaysWhether (IsRight app shown) ended
judged_so app shown judged.Yes ended bytes is s = inl (s.0, is)
judged_so app shown (judged.No n) ended bytes is s = inr (s.0, λ (r : IsRight app shown). is.not_judged r.judged)

deepened_so : (app : App) (ended : Status) (bytes : List ℕ) → TellsDeepest app ended bytes
    → SaysWhether (has_deepest_script app ≡ true) ended
deepened_so app ended bytes (outputs.reaches_bound bytes' form is) = inl (refl, form)
deepened_so app ended bytes (outputs.no_script form) = inr (refl, λ e. absurd cc)

timed_so : (app : App) (ls : List Limit) (ended : Status) (bytes : List ℕ) → TellsTimes app ls ended bytes
    → SaysWhether (has_response_times app ≡ true) ended
timed_so app ls ended bytes (outputs.responds rows form are hold) = inl (refl, form)
timed_so app ls ended bytes (outputs.no_times form) = inr (refl, λ e. absurd cc)

imaged_so : (image : Image) (ended : Status) (line : List ℕ) → TellsImage image ended line
    → SaysWhether (IsChecked image) ended
imaged_so image ended line (verified.is_safe checked safe) = inl (refl, checked)
imaged_so image ended line (verified.breaks rule least) =
    inr (refl, λ (checked : IsChecked image). least.broken (checked least.rule))

audited_so : (text more : List ℕ) (a b : Status) (x y : List ℕ) → IsAudited text more a x → IsAudited text more b y
    → AreDue a b
audited_so text more a b x y one other =
    let app : other.app ≡ one.app = application_only text other.app one.app other.of_text one.of_text in
    let read = subst (λ p. trace.IsTraceText (names_of p) more other.trace) app other.read in
    let same : other.trace ≡ one.trace = one_trace (names_of one.app) more other.trace one.trace read one.read in
    whether_once (IsRight one.app one.trace) a b (judged_so one.app one.trace one.verdict a x one.is one.says)
    (subst (λ t. SaysWhether (IsRight one.app t) b) same (subst (λ p. SaysWhether (IsRight p other.trace) b) app
    (judged_so other.app other.trace other.verdict b y other.is other.says)))

-- what is the listing of an image is not refused
pub image_read : (text line : List ℕ) (image : Image) (refusal : LoadRefused) → IsListingText text image
    → loading.IsListingRefused text refusal
    → SaysImage refusal line → ⊥
image_read text line image in_image.TooLong is met says = omega (arith, is.short, met)
image_read text line image (in_image.BadLine n) is met says = listings.read_one_way.not_both text image n loading.Form
    is met
image_read text line image (in_image.UnknownName n) is met says = listings.read_one_way.not_both text image n
    loading.Name is met
image_read text line image in_image.NoMemory is met says = says

-- A text is of its kind or is refused, not both.
one_of_each : (k : TextKind) (first text : List ℕ) (ended : Status) (line : List ℕ) → IsOfKind k first text
    → IsRefusedBy k first text ended line → ⊥
one_of_each kind.Tree first text ended line (a, is) (told, r) = tree_passes text line a is r
one_of_each kind.Application first text ended line (app, is) (told, r) = application_passes text line app is r
one_of_each kind.OtherApplication first text ended line (app, is) (told, (own, r, says)) =
    application_passes text own app is r
one_of_each kind.Script first text ended line (app, is, asked, read) (told, r) =
    passes (λ a. script.IsScriptText (names_of a)) (λ a. script.IsScriptRefused (names_of a)) SaysScript
    (λ a. script_read (names_of a)) first text line app is asked read r
one_of_each kind.Trace first text ended line (app, is, shown, read) (told, r) =
    passes (λ a. trace.IsTraceText (names_of a)) (λ a. trace.IsTraceRefused (names_of a)) SaysTrace
    (λ a. trace_read (names_of a)) first text line app is shown read r
one_of_each kind.Limits first text ended line (app, is, ls, read) (told, r) =
    passes limits.IsLimitsText limits.AreLimitsRefused SaysLimits limits_read first text line app is ls read r
one_of_each kind.Listing first text ended line (image, is) (told, (refusal, met, says)) =
    image_read text line image refusal is met says

-- a refusal has the status of its kind
one_refusal : (k : TextKind) (first text : List ℕ) (a b : Status) (x y : List ℕ) → IsRefusedBy k first text a x
    → IsRefusedBy k first text b y → AreDue a b
one_refusal kind.Tree first text a b x y r s = due_as status.App a b tt r.0 s.0
one_refusal kind.Application first text a b x y r s = due_as status.App a b tt r.0 s.0
one_refusal kind.OtherApplication first text a b x y r s = due_as status.App a b tt r.0 s.0
one_refusal kind.Script first text a b x y r s = due_as status.Text a b tt r.0 s.0
one_refusal kind.Trace first text a b x y r s = due_as status.Text a b tt r.0 s.0
one_refusal kind.Limits first text a b x y r s = due_as status.Text a b tt r.0 s.0
one_refusal kind.Listing first text a b x y r s = due_as status.Text a b tt r.0 s.0

-- where there is an output each text is of its kind
all_read : (c : Command) (t : Inputs) (ended : Status) (bytes : List ℕ) → IsOutputOf c t ended bytes
    → AreOfKinds rtic_program (kinds_of c) t.first (each_of t)
all_read Run t ended bytes (is, w) = ((w.app, w.is.of_text), ((w.app, w.is.of_text, w.script, w.read), tt))
all_read Check t ended bytes (is, (app, accepted, says)) = ((app, accepted), tt)
all_read Fmt t ended bytes (is, (a, spelled, says)) = ((a, spelled), tt)
all_read Build t ended bytes (is, w) = ((w.app, w.is.of_text), tt)
all_read Audit t ended bytes w = ((w.app, w.of_text), ((w.app, w.of_text, w.trace, w.read), tt))
all_read Live t ended bytes (is, w) = ((w.app, w.is.of_text), ((w.app, w.is.of_text, w.script, w.read), tt))
all_read (Soak number count workers) t ended bytes (is, (app, accepted, says)) = ((app, accepted), tt)
all_read (Demo n) t ended bytes w = tt
all_read Deepest t ended bytes (app, accepted, tells) = ((app, accepted), tt)
all_read Times t ended bytes w = ((w.app, w.of_text), ((w.app, w.of_text, w.limits, w.read), tt))
all_read Verify t ended bytes (image, is, tells) = ((image, is), tt)
all_read Pair t ended bytes (is, w) = (
  (w.first, w.is_first.of_text),
  ((w.second, w.is_second.of_text), ((w.first, w.is_first.of_text, w.script, w.read), tt)),
)

one_output : (c : Command) (t : Inputs) (a b : Status) (x y : List ℕ) → IsOutputOf c t a x → IsOutputOf c t b y
    → AreDue a b
one_output Audit t a b x y w v = audited_so t.first t.second a b x y w v
one_output Deepest t a b x y (app, is, tells) (other, is', tells') =
    whether_once (has_deepest_script app ≡ true) a b (deepened_so app a x tells)
    (subst (λ p. SaysWhether (has_deepest_script p ≡ true) b) (application_only t.first other app is' is)
    (deepened_so other b y tells'))
one_output Times t a b x y w v =
    whether_once (has_response_times w.app ≡ true) a b (timed_so w.app w.limits a x w.tells)
    (subst (λ p. SaysWhether (has_response_times p ≡ true) b) (application_only t.first v.app w.app v.of_text w.of_text)
    (timed_so v.app v.limits b y v.tells))
one_output Verify t a b x y (image, is, tells) (other, is', tells') =
    whether_once (IsChecked image) a b (imaged_so image a x tells)
    (subst (λ i. SaysWhether (IsChecked i) b) (listings.read_one_way.one_image t.first other image is' is)
    (imaged_so other b y tells'))
one_output Run t a b x y w v = due_as status.Done a b tt w.0 v.0
one_output Check t a b x y w v = due_as status.Done a b tt w.0 v.0
one_output Fmt t a b x y w v = due_as status.Done a b tt w.0 v.0
one_output Build t a b x y w v = due_as status.Done a b tt w.0 v.0
one_output Live t a b x y w v = due_as status.Done a b tt w.0 v.0
one_output Pair t a b x y w v = due_as status.Done a b tt w.0 v.0
one_output (Soak number count workers) t a b x y w v = due_as status.Done a b tt w.0 v.0
one_output (Demo n) t a b x y w v = due_as status.Done a b tt w.0 v.0

pub lawful : IsLawful rtic_program
lawful = record {
  one_command = one_command;
  one_of_each = one_of_each;
  one_refusal = one_refusal;
  all_read = all_read;
  one_output = one_output;
}
