-- Boards: which local resources of an application a device writes, as hardware hands over a received byte, a pin or a
-- conversion. Such a resource is listed by a hardware task (the RTIC 1 book, hardware tasks and local resources), whose
-- body finds in it what the device wrote. That a text beside the application names them is this project's own; in RTIC
-- the body reads a register.
use Rattle.std.specs.Prelude.{◌≡◌, ℕ, ◌<◌, ◌==◌, Bool, false, Contains, List, [], ◌∷◌, ◌++◌, length, map, slice_get}
use Rattle.std.specs.Prelude.{Some}
use Rattle.std.specs.List.{AllByRecursion, list_any}
use Rattle.rt_ids.specs.Lists.{AreDifferent}
use Rattle.rt_app.specs.Tree.{Task, App}
use Rattle.rt_app.specs.Level.{is_software}
use Rattle.rt_board.specs.declared.board.Input.{Input}

-- what a board has
pub record Board : Type 0 where
  -- the local resources that a device writes, in the order of the text
  pub inputs : List Input

-- a board without devices
abbrev pub no_board : Board
no_board = record { inputs = [] }

-- a board on which a device writes this local resource too
abbrev pub with_input : Board → Input → Board
with_input board input = record { inputs = board.inputs ++ input ∷ [] }

-- a device writes the local resource of this index
abbrev pub is_written : Board → ℕ → Bool
is_written board n = list_any (λ input. input.local == n) board.inputs

-- a local resource that a device may write: a hardware task lists it
pub record IsInput (app : App) (input : Input) : Type 0 where
  pub task : Task
  pub task_is : slice_get app.tasks input.task ≡ Some task
  pub hardware : is_software task ≡ false
  pub declared : input.local < length app.locals
  pub own : Contains (map (λ o. o.local) task.body.local) input.local

-- local resources that devices may write, none of them twice
pub record AreInputs (app : App) (inputs : List Input) : Type 0 where
  pub each : AllByRecursion (IsInput app) inputs
  pub once : AreDifferent (map (λ input. input.local) inputs)
