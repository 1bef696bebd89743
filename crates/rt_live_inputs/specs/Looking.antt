-- The order in which things happen to the core under `live` with devices that give words. It is this project's own, and
-- as `live` has it without words (crates/rt_live/specs/Interleaving.antt), but that a look goes on: behind the words of
-- the row it takes from each mailbox, in order, what waits there. A word that is found is in its register before its
-- interrupt arrives. The register's word is in the local resource from the take of the handler on
-- (crates/rt_inputs/specs/Inputs.antt). So what a handler finds is the word that the last look before its take found
-- there.
use Rattle.std.specs.Prelude.{ℕ, zero, suc, List, [], ◌∷◌, ◌++◌, map, flat_map, drop, replicate, zip, Option, Some}
use Rattle.std.specs.Prelude.{None}
use Rattle.rt_ids.specs.Event.{Arrive, Tick, Step, steps}
use Rattle.rt_script.specs.Script.{core_events}
use Rattle.rt_live.specs.Interleaving.{look_arrivals}
use Rattle.rt_inputs.specs.Inputs.{Happening, Comes, Gives}
use Rattle.rt_given.specs.declared.line.GivenLine.{GivenLine}
use Rattle.rt_given.specs.declared.line.GivenLine.TheVariants as given
use Rattle.rt_live_inputs.specs.Boxes.{plain}
use Rattle.rt_live_inputs.specs.declared.boxes.BoxKind.{BoxKind as Box}

-- one thing that is done on the core's side
pub data InputTurn : Type 0 where
  -- something that happens to the core by its own line of the script
  Happens : (happening : Happening) → InputTurn
  -- a look
  Looks : InputTurn

-- what a look found: the words of the row, and what waited in each mailbox, in order
pub record Found : Type 0 where
  pub row : List ℕ
  pub waited : List (Option ℕ)

-- a core step behind a look
abbrev pub step_turns : List InputTurn
step_turns = Looks ∷ Happens (Comes Step) ∷ []

-- what is done of a line of the script by the core's side: of devices' lines nothing
abbrev pub line_turns : GivenLine → List InputTurn
line_turns (given.Steps n) = flat_map (λ t. t) (replicate n step_turns)
line_turns (given.Ticks n) = replicate n (Happens (Comes Tick))
line_turns (given.Pends irq n) = replicate n (Happens (Comes (Arrive irq)))
line_turns (given.Gives local word) = Happens (Gives local word) ∷ []
line_turns line = []

-- how many core steps a line is
abbrev pub steps_in : GivenLine → ℕ
steps_in (given.Steps n) = n
steps_in line = 0

-- how many core steps the core's own lines are
abbrev pub own_steps : List GivenLine → ℕ
own_steps script = steps (core_events (plain script))

-- what is done under a script: the core's own lines; then, when the devices have ended, a look alone, and as many core
-- steps again, each behind a look
abbrev pub turns : List GivenLine → List InputTurn
turns script = flat_map line_turns script ++ Looks ∷ flat_map (λ t. t) (replicate (own_steps script) step_turns)

-- how many looks are among them
abbrev pub looks : List InputTurn → ℕ
looks [] = zero
looks (Looks ∷ ts) = suc (looks ts)
looks (Happens happening ∷ ts) = looks ts

-- what happens to the core by what waited in a mailbox
abbrev pub box_happenings : Box × Option ℕ → List Happening
box_happenings (box, None) = []
box_happenings (box, Some word) = Gives box.local word ∷ Comes (Arrive box.irq) ∷ []

-- what happens to the core by a look
abbrev pub look_happenings : List Box → Found → List Happening
look_happenings boxes found =
    map Comes (look_arrivals found.row) ++ flat_map box_happenings (zip boxes found.waited)

-- what happens to the core by these turns, whose looks found this; a look that is not there ends them
abbrev pub happenings_of : List Box → List InputTurn → List Found → List Happening
happenings_of boxes [] found = []
happenings_of boxes (Happens happening ∷ ts) found = happening ∷ happenings_of boxes ts found
happenings_of boxes (Looks ∷ ts) [] = []
happenings_of boxes (Looks ∷ ts) (one ∷ found) = look_happenings boxes one ++ happenings_of boxes ts found

-- of what the looks found, what those behind the core's own lines found
abbrev pub last_found : List GivenLine → List Found → List Found
last_found script found = drop (own_steps script) found
