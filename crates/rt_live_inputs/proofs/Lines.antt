-- The turns of a script's lines, one line behind the other.
use Rattle.std.proofs.Common.{◌≡◌, ℕ, zero, suc, ◌+◌, ◌<◌, ◌≤◌, List, [], ◌∷◌, ◌++◌, map, flat_map, length, take}
use Rattle.std.proofs.Common.{replicate, get_or, refl, ap, sym, subst, ◌∙◌, append_assoc, append-nil, arith}
use Rattle.rt_ids.specs.Event.{Arrive, Event, Step, Tick, steps}
use Rattle.rt_script.specs.Script.{count}
use Rattle.rt_given.specs.Given.{asked, count_of}
use Rattle.rt_given.specs.declared.line.GivenLine.{GivenLine}
use Rattle.rt_given.specs.declared.line.GivenLine.TheVariants as given
use Rattle.rt_run.proofs.Advancing.{steps-append}
use Rattle.rt_run.proofs.Known.{ticks}
use Rattle.rt_inputs.specs.Inputs.{Comes, Gives, Happening, events_of}
use Rattle.rt_inputs.proofs.Moved.{happened_more}
use Rattle.rt_inputs.proofs.Scripted.{line_count}
use Rattle.rt_live_inputs.specs.Looking.{Happens, InputTurn, line_turns, looks, step_turns}
use Rattle.rt_live_inputs.specs.Inside.Going.{IsOne}
use Rattle.rt_live_inputs.proofs.Going.{ticks-append}
use Rattle.rt_live_inputs.proofs.Turning.{happens, happens_append, looks_append}

-- a list so many times
abbrev pub repeated : {X : Type 0} → ℕ → List X → List X
repeated n xs = flat_map (λ t. t) (replicate n xs)

pub repeat_more : {X : Type 0} (n : ℕ) (xs : List X) → repeated (suc n) xs ≡ repeated n xs ++ xs
repeat_more zero xs = append-nil xs
repeat_more (suc n) xs =
    ap (λ ys. xs ++ ys) (repeat_more n xs) ∙ sym (append_assoc xs (repeated n xs) xs)

-- one thing so many times
pub repeat_one : {X : Type 0} (n : ℕ) (x : X) → repeated n (x ∷ []) ≡ replicate n x
repeat_one zero x = refl
repeat_one (suc n) x = ap (λ ys. x ∷ ys) (repeat_one n x)

pub turns_replicate : (n : ℕ) (h : Happening) → map Happens (replicate n h) ≡ replicate n (Happens h)
turns_replicate zero h = refl
turns_replicate (suc n) h = ap (λ (ts : List InputTurn). Happens h ∷ ts) (turns_replicate n h)

pub steps_look : (n : ℕ) → looks (repeated n step_turns) ≡ n
steps_look zero = refl
steps_look (suc n) = ap suc (steps_look n)

pub steps_happen : (n : ℕ) → happens (repeated n step_turns) ≡ n
steps_happen zero = refl
steps_happen (suc n) = ap suc (steps_happen n)

events_look : (n : ℕ) (e : Event) → looks (replicate n (Happens (Comes e))) ≡ 0
events_look zero e = refl
events_look (suc n) e = events_look n e

events_happen : (n : ℕ) (e : Event) → happens (replicate n (Happens (Comes e))) ≡ n
events_happen zero e = refl
events_happen (suc n) e = ap suc (events_happen n e)

line_looks : (line : GivenLine) → looks (line_turns line) ≤ count_of line
line_looks (given.Steps n) = omega (arith, steps_look n)
line_looks (given.Ticks n) = omega (arith, events_look n Tick)
line_looks (given.Pends irq n) = omega (arith, events_look n (Arrive irq))
line_looks (given.Device d irq n) = omega arith
line_looks (given.Counts d irq n local first) = omega arith
line_looks (given.Draws d irq n local seed) = omega arith
line_looks (given.Gives local word) = omega arith

line_happens : (line : GivenLine) → happens (line_turns line) ≤ count_of line
line_happens (given.Steps n) = omega (arith, steps_happen n)
line_happens (given.Ticks n) = omega (arith, events_happen n Tick)
line_happens (given.Pends irq n) = omega (arith, events_happen n (Arrive irq))
line_happens (given.Device d irq n) = omega arith
line_happens (given.Counts d irq n local first) = omega arith
line_happens (given.Draws d irq n local seed) = omega arith
line_happens (given.Gives local word) = omega arith

pub lines_look : (script : List GivenLine) → looks (flat_map line_turns script) ≤ count (asked script)
lines_look [] = omega arith
lines_look (line ∷ script) = omega (
  arith,
  looks_append (line_turns line) (flat_map line_turns script),
  line_looks line,
  lines_look script,
  line_count line script,
)

pub lines_happen : (script : List GivenLine) → happens (flat_map line_turns script) ≤ count (asked script)
lines_happen [] = omega arith
lines_happen (line ∷ script) = omega (
  arith,
  happens_append (line_turns line) (flat_map line_turns script),
  line_happens line,
  lines_happen script,
  line_count line script,
)

-- the lines before one, and that one, are no more events than all
pub events_within : (script : List GivenLine) (i : ℕ) (line : GivenLine) → i < length script
    → line ≡ get_or script i line → count (asked (take i script)) + count_of line ≤ count (asked script)
events_within [] i line below is = absurd (omega (arith, below))
events_within (l ∷ script) zero line below is = omega (arith, line_count l script, ap count_of is)
events_within (l ∷ script) (suc i) line below is = omega (
  arith,
  line_count l script,
  line_count l (take i script),
  events_within script i line (omega (arith, below)) is,
)

-- events alone that are one at most are so many at most
one_event : (hs : List Happening) → IsOne hs → (steps (events_of hs) ≤ 1) × (ticks (events_of hs) ≤ 1)
one_event hs one =
    subst (λ (t : List Happening). (steps (events_of t) ≤ 1) × (ticks (events_of t) ≤ 1)) (sym one.1) (by one.0)
  where
    by : (h : Happening) → (steps (events_of (h ∷ [])) ≤ 1) × (ticks (events_of (h ∷ [])) ≤ 1)
    by (Comes Step) = (omega arith, omega arith)
    by (Comes Tick) = (omega arith, omega arith)
    by (Comes (Arrive irq)) = (omega arith, omega arith)
    by (Gives local word) = (omega arith, omega arith)

pub few_events : (n : ℕ) (hs : List Happening) → IsOne hs
    → (steps (events_of (repeated n hs)) ≤ n) × (ticks (events_of (repeated n hs)) ≤ n)
few_events zero hs one = (omega arith, omega arith)
few_events (suc n) hs one =
    let rest = few_events n hs one in
    let first = one_event hs one in
    let split = happened_more hs (repeated n hs) in (
      omega (arith, ap steps split, steps-append (events_of hs) (events_of (repeated n hs)), rest.0, first.0),
      omega (arith, ap ticks split, ticks-append (events_of hs) (events_of (repeated n hs)), rest.1, first.1),
    )

-- a thing that happens so many times, as turns
pub often_turns : (n : ℕ) (h : Happening) → map Happens (repeated n (h ∷ [])) ≡ replicate n (Happens h)
often_turns n h = ap (map Happens) (repeat_one n h) ∙ turns_replicate n h
