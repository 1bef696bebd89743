-- What a good image shows beside devices that give words is what is to be written. Its ticks and core steps are those
-- of the core's own lines, and as many steps again: so they are few, whatever the looks find.
use Rattle.std.proofs.Common.{◌≡◌, ℕ, zero, suc, ◌+◌, ◌*◌, ◌≤◌, Bool, true, false, cond, List, [], ◌∷◌, ◌++◌, map}
use Rattle.std.proofs.Common.{flat_map, replicate, zip, count_by, Option, Some, None, refl, ap, ◌∙◌}
use Rattle.std.proofs.Common.{append_assoc, arith}
use Rattle.std.specs.Str.Lines.{lines}
use Rattle.std.proofs.lemmas.List.Sums.{sum_by-append, sum_by-cons}
use Rattle.rt_ids.specs.Event.{Event, Arrive, Tick, Step, steps}
use Rattle.rt_ids.specs.declared.limits.TheConstants.{SCRIPT_EVENTS}
use Rattle.rt_ids.specs.declared.status.Status.{Status}
use Rattle.rt_app.specs.Names.{names_of}
use Rattle.rt_app.specs.Tree.{App}
use Rattle.rt_build.specs.Accepted.{IsApplication}
use Rattle.rt_code.specs.Image.{Image}
use Rattle.rt_core.specs.Core.{reset}
use Rattle.rt_trace.specs.Label.{Label, Arrived, Ticked, Rang, Stepped, items_of, steps_of}
use Rattle.rt_trace.specs.declared.item.Item.{Item}
use Rattle.rt_laws.specs.DeviceWords.{WithWords, things}
use Rattle.rt_run.proofs.Advancing.{steps-append}
use Rattle.rt_script.specs.Script.{core_events, count}
use Rattle.rt_script.specs.Script as script
use Rattle.rt_sim.specs.Beside.{shown_beside, CountsFitBeside, RunsWellBeside}
use Rattle.rt_sim.specs.Good.{is_tick_event, is_arming}
use Rattle.rt_board.specs.Board.{Board, AreInputs}
use Rattle.rt_target.specs.Reading.{IsBoardOf}
use Rattle.rt_given.specs.Given.{asked, asked_line, count_of}
use Rattle.rt_given.specs.Reading.{IsGivenText}
use Rattle.rt_given.specs.declared.line.GivenLine.{GivenLine}
use Rattle.rt_given.specs.declared.line.GivenLine.TheVariants as given
use Rattle.rt_given.proofs.Told.{lead_right}
use Rattle.rt_inputs.specs.Inputs.{Happening, Comes, Gives, no_words, events_of, moves_of}
use Rattle.rt_inputs.proofs.Free.{runs_with_inputs_are_good}
use Rattle.rt_inputs.proofs.Moved.{events_come, steps_shown}
use Rattle.rt_live.specs.Interleaving.{arrivals_from, look_arrivals}
use Rattle.rt_live_inputs.specs.Boxes.{boxes, plain}
use Rattle.rt_live_inputs.specs.Looking.{Found, InputTurn, Happens, Looks, box_happenings, happenings_of, line_turns}
use Rattle.rt_live_inputs.specs.Looking.{look_happenings, own_steps, step_turns, turns}
use Rattle.rt_live_inputs.specs.Output.{IsLiveText, happened}
use Rattle.rt_live_inputs.specs.declared.boxes.BoxKind.{BoxKind as Box}
use Rattle.rt_live_inputs.proofs.Good.{live_runs_are_good}
use Rattle.rt_top.specs.Program.{Inputs}
use Rattle.rt_top.specs.Outputs.{IsGoodOf}
use Rattle.rt_topx.specs.declared.command.Command.TheVariants as command
use Rattle.rt_topx.specs.Rticx.{IsOutputOf}
use Rattle.rt_topx.specs.Inside.Started.{ShowsLive}
use Rattle.rt_topx.proofs.Scripted.{count_line, scripted}

-- how many of these events are ticks or core steps
abbrev timed : List Event → ℕ
timed [] = zero
timed (Arrive irq ∷ es) = timed es
timed (Tick ∷ es) = suc (timed es)
timed (Step ∷ es) = suc (timed es)

timed_parts : (es : List Event) → count_by is_tick_event es + steps es ≡ timed es
timed_parts [] = refl
timed_parts (Arrive irq ∷ es) = let rest = timed_parts es in omega (arith, rest)
timed_parts (Tick ∷ es) =
    let more = sum_by-cons (λ (e : Event). cond (is_tick_event e) 1 0) Tick es in
    let rest = timed_parts es in
    omega (arith, more, rest)
timed_parts (Step ∷ es) = let rest = timed_parts es in omega (arith, rest)

-- a core step shows one arming at most, and nothing else shows one
arms_few : (n : ℕ) (ls : List Label) → count_by (λ (item : Item). is_arming item.what) (items_of n ls) ≤ steps_of ls
arms_few n [] = omega arith
arms_few n (Arrived irq ∷ ls) = let rest = arms_few n ls in omega (arith, rest)
arms_few n (Ticked ∷ ls) = let rest = arms_few n ls in omega (arith, rest)
arms_few n (Rang ∷ ls) = let rest = arms_few n ls in omega (arith, rest)
arms_few n (Stepped None ∷ ls) = let rest = arms_few (suc n) ls in omega (arith, rest)
arms_few n (Stepped (Some w) ∷ ls) =
    let item : Item = record { step = n; what = w } in
    let more = sum_by-cons (λ (item : Item). cond (is_arming item.what) 1 0) item (items_of (suc n) ls) in
    let one = either (is_arming w) in
    let rest = arms_few (suc n) ls in
    omega (arith, more, one, rest)
  where
    either : (b : Bool) → cond b 1 0 ≤ 1
    either true = omega arith
    either false = omega arith

-- how many of what is done by turns are ticks or core steps
abbrev turns_timed : List InputTurn → ℕ
turns_timed [] = zero
turns_timed (Looks ∷ ts) = turns_timed ts
turns_timed (Happens (Gives local word) ∷ ts) = turns_timed ts
turns_timed (Happens (Comes (Arrive irq)) ∷ ts) = turns_timed ts
turns_timed (Happens (Comes Tick) ∷ ts) = suc (turns_timed ts)
turns_timed (Happens (Comes Step) ∷ ts) = suc (turns_timed ts)

turns_append : (ts us : List InputTurn) → turns_timed (ts ++ us) ≡ turns_timed ts + turns_timed us
turns_append [] us = omega arith
turns_append (Looks ∷ ts) us = turns_append ts us
turns_append (Happens (Gives local word) ∷ ts) us = turns_append ts us
turns_append (Happens (Comes (Arrive irq)) ∷ ts) us = turns_append ts us
turns_append (Happens (Comes Tick) ∷ ts) us = let rest = turns_append ts us in omega (arith, rest)
turns_append (Happens (Comes Step) ∷ ts) us = let rest = turns_append ts us in omega (arith, rest)

-- a look is no tick and no step
row_untimed : (irqs : List ℕ) (more : List Happening)
    → timed (events_of (map Comes (map Arrive irqs) ++ more)) ≡ timed (events_of more)
row_untimed [] more = refl
row_untimed (irq ∷ irqs) more = row_untimed irqs more

boxes_untimed : (found : List (Box × Option ℕ)) (more : List Happening)
    → timed (events_of (flat_map box_happenings found ++ more)) ≡ timed (events_of more)
boxes_untimed [] more = refl
boxes_untimed ((box, None) ∷ found) more = boxes_untimed found more
boxes_untimed ((box, Some word) ∷ found) more = boxes_untimed found more

look_untimed : (bs : List Box) (one : Found) (more : List Happening)
    → timed (events_of (look_happenings bs one ++ more)) ≡ timed (events_of more)
look_untimed bs one more =
    let waited : List Happening = flat_map box_happenings (zip bs one.waited) in
    ap (λ h. timed (events_of h)) (append_assoc (map Comes (look_arrivals one.row)) waited more)
    ∙ row_untimed (arrivals_from 0 one.row) (waited ++ more) ∙ boxes_untimed (zip bs one.waited) more

happens_timed : (bs : List Box) (ts : List InputTurn) (found : List Found)
    → timed (events_of (happenings_of bs ts found)) ≤ turns_timed ts
happens_timed bs [] found = omega arith
happens_timed bs (Happens (Gives local word) ∷ ts) found = happens_timed bs ts found
happens_timed bs (Happens (Comes (Arrive irq)) ∷ ts) found = happens_timed bs ts found
happens_timed bs (Happens (Comes Tick) ∷ ts) found = let rest = happens_timed bs ts found in omega (arith, rest)
happens_timed bs (Happens (Comes Step) ∷ ts) found = let rest = happens_timed bs ts found in omega (arith, rest)
happens_timed bs (Looks ∷ ts) [] = omega arith
happens_timed bs (Looks ∷ ts) (one ∷ found) =
    let rest = happens_timed bs ts found in
    let look = look_untimed bs one (happenings_of bs ts found) in
    omega (arith, rest, look)

stepping : (n : ℕ) → turns_timed (flat_map (λ t. t) (replicate n step_turns)) ≡ n
stepping zero = refl
stepping (suc n) = ap suc (stepping n)

ticking : (n : ℕ) → turns_timed (replicate n (Happens (Comes Tick))) ≡ n
ticking zero = refl
ticking (suc n) = ap suc (ticking n)

pending : (n irq : ℕ) → turns_timed (replicate n (Happens (Comes (Arrive irq)))) ≡ 0
pending zero irq = refl
pending (suc n) irq = pending n irq

line_timed : (line : GivenLine) → turns_timed (line_turns line) ≤ count_of line
line_timed (given.Steps n) = omega (arith, stepping n)
line_timed (given.Ticks n) = omega (arith, ticking n)
line_timed (given.Pends irq n) = omega (arith, pending n irq)
line_timed (given.Device d irq n) = omega arith
line_timed (given.Counts d irq n local first) = omega arith
line_timed (given.Draws d irq n local seed) = omega arith
line_timed (given.Gives local word) = omega arith

count_more : (line : GivenLine) (s : List GivenLine) → count (asked (line ∷ s)) ≡ count_of line + count (asked s)
count_more line s =
    omega (arith, sum_by-append script.count_of (asked_line line) (asked s), count_line line)

lines_timed : (s : List GivenLine) → turns_timed (flat_map line_turns s) ≤ count (asked s)
lines_timed [] = omega arith
lines_timed (line ∷ s) =
    omega (
      arith,
      turns_append (line_turns line) (flat_map line_turns s),
      line_timed line,
      count_more line s,
      lines_timed s,
    )

steps_alone : (n : ℕ) → steps (replicate n Step) ≡ n
steps_alone zero = refl
steps_alone (suc n) = ap suc (steps_alone n)

no_steps : (n : ℕ) → steps (replicate n Tick) ≡ 0
no_steps zero = refl
no_steps (suc n) = no_steps n

no_steps_asked : (n irq : ℕ) → steps (replicate n (Arrive irq)) ≡ 0
no_steps_asked zero irq = refl
no_steps_asked (suc n) irq = no_steps_asked n irq

own_few : (s : List GivenLine) → own_steps s ≤ count (asked s)
own_few [] = omega arith
own_few (given.Steps n ∷ s) =
    omega (
      arith,
      steps-append (replicate n Step) (core_events (plain s)),
      steps_alone n,
      count_more (given.Steps n) s,
      own_few s,
    )
own_few (given.Ticks n ∷ s) =
    omega (
      arith,
      steps-append (replicate n Tick) (core_events (plain s)),
      no_steps n,
      count_more (given.Ticks n) s,
      own_few s,
    )
own_few (given.Pends irq n ∷ s) =
    omega (
      arith,
      steps-append (replicate n (Arrive irq)) (core_events (plain s)),
      no_steps_asked n irq,
      count_more (given.Pends irq n) s,
      own_few s,
    )
own_few (given.Device d irq n ∷ s) = omega (arith, count_more (given.Device d irq n) s, own_few s)
own_few (given.Counts d irq n local first ∷ s) =
    omega (arith, count_more (given.Counts d irq n local first) s, own_few s)
own_few (given.Draws d irq n local seed ∷ s) =
    omega (arith, count_more (given.Draws d irq n local seed) s, own_few s)
own_few (given.Gives local word ∷ s) = omega (arith, count_more (given.Gives local word) s, own_few s)

all_timed : (s : List GivenLine) (found : List Found) → timed (events_of (happened s found)) ≤ 2 * count (asked s)
all_timed s found =
    let more : List InputTurn = flat_map (λ t. t) (replicate (own_steps s) step_turns) in
    omega (
      arith,
      happens_timed (boxes s) (turns s) found,
      turns_append (flat_map line_turns s) (Looks ∷ more),
      lines_timed s,
      stepping (own_steps s),
      own_few s,
    )

counts_fit : (app : App) (image : Image) (board : Board) (s : List GivenLine) (found : List Found)
    → count (asked s) ≤ SCRIPT_EVENTS → CountsFitBeside app image (moves_of app image board (happened s found))
counts_fit app image board s found few mono is =
    let moves : List (WithWords Event) = moves_of app image board (happened s found) in
    let come = ap timed (events_come app image board (reset image) no_words (happened s found)) in
    let arms = arms_few 0 (things (shown_beside app image moves)) in
    let same = steps_shown app image moves (reset image) in
    omega (arith, few, come, arms, same, timed_parts (things moves), all_timed s found)

module _ (app : App) (image : Image) (good : IsGoodOf app image) (board : Board) (inputs : AreInputs app board.inputs)
    (text : List ℕ) (s : List GivenLine) (read : IsGivenText (names_of app) app board text s) where
  well : (shown : List ℕ) (live : IsLiveText app image board s shown)
      → RunsWellBeside app image (moves_of app image board (happened s live.found))
  well shown live =
      live_runs_are_good app image good.accepted good.of_application board inputs s live.found
      (lead_right (names_of app) app board (lines text) s read.lead).inputs live.are live.declared
      (counts_fit app image board s live.found (scripted (names_of app) app board text s read).few)

pub lived : (t : Inputs) (app : App) → IsApplication t.first app → (board : Board) → IsBoardOf app t.second board
    → AreInputs app board.inputs → (image : Image) → IsGoodOf app image → (s : List GivenLine)
    → IsGivenText (names_of app) app board t.third s → (ended : Status) (bytes : List ℕ)
    → ShowsLive app image board s ended bytes → IsOutputOf command.Live t ended bytes
lived t app of_text board of_board inputs image good s read ended bytes (is, numbers, shown, live, written) = (
  is,
  record {
    app = app;
    image = image;
    is = record { of_text = of_text; good = good; numbers = numbers };
    board = board;
    of_board = of_board;
    inputs = inputs;
    good = runs_with_inputs_are_good app image good.accepted good.of_application board inputs;
    script = s;
    read = read;
    shown = shown;
    live = live;
    written = written;
    runs = well app image good board inputs t.third s read shown live;
  },
)
