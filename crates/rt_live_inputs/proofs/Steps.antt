-- How many core steps the core's own lines are, and how many looks they take.
use Rattle.std.proofs.Common.{◌≡◌, ℕ, zero, suc, ◌+◌, ◌<◌, ◌≤◌, List, [], ◌∷◌, ◌++◌, flat_map, length, take, replicate}
use Rattle.std.proofs.Common.{get_or, refl, ap, ◌∙◌, append-nil, arith}
use Rattle.std.proofs.lemmas.List.Concat.{flat_map-append}
use Rattle.rt_lemmas.proofs.Lists.{flat_map_next}
use Rattle.rt_ids.specs.Event.{Arrive, Event, Step, Tick, steps}
use Rattle.rt_script.specs.Script.{core_events, core_line_events, count}
use Rattle.rt_script.specs.declared.line.Line.{Line}
use Rattle.rt_run.proofs.Advancing.{steps-append}
use Rattle.rt_live.proofs.Woven.{repeated_steps}
use Rattle.rt_given.specs.Given.{asked, count_of}
use Rattle.rt_given.specs.declared.line.GivenLine.{GivenLine}
use Rattle.rt_given.specs.declared.line.GivenLine.TheVariants as given
use Rattle.rt_inputs.specs.Inputs.{Comes}
use Rattle.rt_inputs.proofs.Scripted.{line_count}
use Rattle.rt_live_inputs.specs.Boxes.{plain, plain_line}
use Rattle.rt_live_inputs.specs.Looking.{Happens, line_turns, looks, own_steps, steps_in}
use Rattle.rt_live_inputs.proofs.Lines.{steps_look}
use Rattle.rt_live_inputs.proofs.Turning.{looks_append}

no_steps : (n : ℕ) (e : Event) → steps (e ∷ []) ≡ 0 → steps (replicate n e) ≡ 0
no_steps zero e none = refl
no_steps (suc n) e none = omega (arith, steps-append (e ∷ []) (replicate n e), none, no_steps n e none)

alone : (es : List Event) (n : ℕ) → steps es ≡ n → steps (es ++ []) ≡ n
alone es n is = ap steps (append-nil es) ∙ is

line_steps : (line : GivenLine) → steps (core_events (plain_line line)) ≡ steps_in line
line_steps (given.Steps n) = alone (replicate n Step) n (repeated_steps n)
line_steps (given.Ticks n) = alone (replicate n Tick) 0 (no_steps n Tick refl)
line_steps (given.Pends irq n) = alone (replicate n (Arrive irq)) 0 (no_steps n (Arrive irq) refl)
line_steps (given.Device d irq n) = refl
line_steps (given.Counts d irq n local first) = refl
line_steps (given.Draws d irq n local seed) = refl
line_steps (given.Gives local word) = refl

both_steps : (xs ys : List Line) → steps (core_events (xs ++ ys)) ≡ steps (core_events xs) + steps (core_events ys)
both_steps xs ys =
    ap steps (flat_map-append core_line_events xs ys) ∙ steps-append (core_events xs) (core_events ys)

pub own_first : (line : GivenLine) (script : List GivenLine) → own_steps (line ∷ script)
    ≡ steps_in line + own_steps script
own_first line script = omega (arith, both_steps (plain_line line) (plain script), line_steps line)

pub own_more : (script : List GivenLine) (i : ℕ) (line : GivenLine) → i < length script → line ≡ get_or script i line
    → own_steps (take (i + 1) script) ≡ own_steps (take i script) + steps_in line
own_more script i line below is = omega (
  arith,
  ap (λ (lines : List Line). steps (core_events lines)) (flat_map_next plain_line script i line below is),
  both_steps (plain (take i script)) (plain_line line),
  line_steps line,
)

pub line_few : (line : GivenLine) → steps_in line ≤ count_of line
line_few (given.Steps n) = omega arith
line_few (given.Ticks n) = omega arith
line_few (given.Pends irq n) = omega arith
line_few (given.Device d irq n) = omega arith
line_few (given.Counts d irq n local first) = omega arith
line_few (given.Draws d irq n local seed) = omega arith
line_few (given.Gives local word) = omega arith

pub own_few : (script : List GivenLine) → own_steps script ≤ count (asked script)
own_few [] = omega arith
own_few (line ∷ script) = omega (arith, own_first line script, line_few line, own_few script, line_count line script)

no_looks : (n : ℕ) (e : Event) → looks (replicate n (Happens (Comes e))) ≡ 0
no_looks zero e = refl
no_looks (suc n) e = no_looks n e

line_looks : (line : GivenLine) → looks (line_turns line) ≡ steps_in line
line_looks (given.Steps n) = steps_look n
line_looks (given.Ticks n) = no_looks n Tick
line_looks (given.Pends irq n) = no_looks n (Arrive irq)
line_looks (given.Device d irq n) = refl
line_looks (given.Counts d irq n local first) = refl
line_looks (given.Draws d irq n local seed) = refl
line_looks (given.Gives local word) = refl

-- a look comes before each core step of the core's own lines
pub own_looks : (script : List GivenLine) → looks (flat_map line_turns script) ≡ own_steps script
own_looks [] = refl
own_looks (line ∷ script) = omega (
  arith,
  looks_append (line_turns line) (flat_map line_turns script),
  line_looks line,
  own_looks script,
  own_first line script,
)
