-- What is promised of the code of dispatchers (the RTIC 1 book, software tasks and their dispatchers), where the bodies
-- of the tasks stand when they are called: a dispatcher starts the oldest message of its level, gives its place back,
-- runs the task's body and returns, whatever others do to what is not its own, within the cost that is counted for it.
use Rattle.std.specs.Prelude.{◌≡◌, ℕ, true, List, length, slice_get, Some, Contains}
use Rattle.rt_actions.specs.Storage.{AtPriority}
use Rattle.rt_app.specs.declared.costs.TheConstants.{DISPATCHER_WORDS}
use Rattle.rt_app.specs.Tree.{Task, App}
use Rattle.rt_app.specs.Level.{is_of_level, levels}
use Rattle.rt_app.specs.BodyCost.{dispatcher_cost}
use Rattle.rt_app.specs.Layout.{memory}
use Rattle.rt_app.specs.Holding.{storage}
use Rattle.rt_app.specs.Doings.{dispatcher_doing}
use Rattle.rt_app.specs.Accepted.{IsAccepted}
use Rattle.rt_code.specs.Standing.{StandsFrom}
use Rattle.rt_code.specs.declared.image.BodyRow.{BodyRow}
use Rattle.rt_gen_queue.specs.Line.{Line, HasCodeAt}
use Rattle.rt_gen_queue.specs.Called.{row_for, rows_for, CalledBodyStands}
use Rattle.rt_gen_disp.specs.Code.{dispatcher_code}

-- Where the code of a level's dispatcher is: at an address, and beside it are the rows of the bodies by their entries,
-- of which those of the level's tasks stand when they are called.
pub record DispatcherAt (app : App) (level : ℕ) : Type 0 where
  pub code : List Line
  pub address : ℕ
  pub has : HasCodeAt code address (dispatcher_code app level address)
  pub entry : ℕ → ℕ
  pub bodies : List BodyRow
  pub rows : bodies ≡ rows_for entry 0 app.tasks
  pub called : (n : ℕ) (t : Task) → slice_get app.tasks n ≡ Some t → is_of_level level t ≡ true
      → CalledBodyStands app n code (row_for entry n t)

-- of an accepted application the dispatcher of a level stands wherever it is, wherever the thread goes on
abbrev pub DispatchersStand : Type 0
DispatchersStand =
    (app : App) → IsAccepted app → (level : ℕ) → Contains (levels app) level → (d : DispatcherAt app level)
    (thread : ℕ)
    → StandsFrom (storage app) d.code d.bodies thread (AtPriority level) (length (memory app)) DISPATCHER_WORDS
    d.address (dispatcher_cost app level) (dispatcher_doing app level)
