-- In which configurations the bodies of software tasks begin and end when their level's dispatcher calls them (the RTIC
-- 1 book, software tasks and their dispatchers). That a body is called in a frame of its own, and goes back where that
-- frame says, is this project's own.
use Rattle.std.specs.Prelude.{◌≡◌, ℕ, ◌+◌, ◌≤◌, ◌||◌, true, List, [], ◌∷◌, ◌++◌, length, take, slice_get}
use Rattle.std.specs.Prelude.{slice_index, Option, Some, None, if◌then◌else◌}
use Rattle.rt_actions.specs.Location.{Location}
use Rattle.rt_actions.specs.Content.{Values}
use Rattle.rt_actions.specs.Entry.{Entry}
use Rattle.rt_actions.specs.Action.{Ends}
use Rattle.rt_actions.specs.Doing.{Doing}
use Rattle.rt_actions.specs.Storage.{AtPriority}
use Rattle.rt_ids.specs.declared.ids.BodyId.TheVariants as body
use Rattle.rt_app.specs.Tree.{Task, App}
use Rattle.rt_app.specs.Level.{is_software}
use Rattle.rt_app.specs.BodyCost.{cost_measure, body_cost}
use Rattle.rt_app.specs.Frame.{frame_words}
use Rattle.rt_app.specs.Layout.{memory}
use Rattle.rt_app.specs.Holding.{storage}
use Rattle.rt_app.specs.Sending.{Rest, act}
use Rattle.rt_app.specs.Doings.{task_doing}
use Rattle.rt_code.specs.Owning.{Configuration}
use Rattle.rt_code.specs.Stack.{IsAlikeUpTo, last_slot, return_address}
use Rattle.rt_code.specs.Standing.{Stands}
use Rattle.rt_code.specs.declared.image.BodyRow.{BodyRow}
use Rattle.rt_gen_queue.specs.Line.{Line}

-- the row of the body of the task of a number, by the entries of bodies
abbrev pub row_for : (ℕ → ℕ) → ℕ → Task → BodyRow
row_for entry n t = record { task = n; entry = entry n; frame = frame_words t.args t.body; args = t.args }

-- the rows of the bodies of software tasks in order; the first of the tasks has this number
abbrev pub rows_for : (ℕ → ℕ) → ℕ → List Task → List BodyRow
rows_for entry n [] = []
rows_for entry n (t ∷ more) = (if is_software t then row_for entry n t ∷ [] else []) ++ rows_for entry (n + 1) more

-- a job with no section open and nothing in its hands, which has so many steps left, in a frame that may be a called
-- body's
abbrev pub calm : ℕ → List ℕ → Option (List ℕ) → ℕ → List ℕ → (Location → List Entry) → Doing Values → Configuration
calm left slots caller at cells queues rest = record {
  held = [];
  lefts = left ∷ [];
  places = [];
  slots = slots;
  caller = caller;
  address = at;
  cells = cells;
  queues = queues;
  rest = rest;
}

-- memory represents all that the jobs of a level keep, or may read at any time
pub record AreRepresented (app : App) (level : ℕ) (cells : List ℕ) (queues : Location → List Entry)
    (vs : Values) : Type 0
  where
    pub long : length cells ≡ length (memory app)
    pub each : (h : Location)
        → ((storage app).is_kept (AtPriority level) h || (storage app).is_constant (AtPriority level) h) ≡ true
        → (storage app).Represents h (slice_index cells) (queues h) (vs h)

-- A called body of a task of a level stands. Suppose that what is to be done after its end stands within so many steps,
-- at the address that the handler's frame keeps and in that frame, whatever the slot of that address holds. Then the
-- whole body and that stand at the body's entry, within the body's cost and so many steps, in a frame whose first slots
-- are the arguments, whatever else it holds.
abbrev pub CalledAtLevel : App → ℕ → ℕ → Task → List Line → BodyRow → Type 0
CalledAtLevel app n level t code row =
    (bodies : List BodyRow) (thread steps : ℕ) (frame : List ℕ) (behind : Rest)
    → ((left : ℕ) (back cells : List ℕ) (queues : Location → List Entry) (vs : Values) → steps ≤ left
    → IsAlikeUpTo (last_slot frame) frame back → AreRepresented app level cells queues vs
    → Stands (storage app) code bodies thread (AtPriority level) steps
    (calm left back None (return_address frame) cells queues (behind vs)))
    → (left : ℕ) (slots cells : List ℕ) (queues : Location → List Entry) (vs : Values)
    → body_cost (cost_measure app) t.body + steps ≤ left → length slots ≡ row.frame
    → AreRepresented app level cells queues vs
    → Stands (storage app) code bodies thread (AtPriority level) (body_cost (cost_measure app) t.body + steps)
    (calm left slots (Some frame) row.entry cells queues
    (task_doing app n (take row.args slots) (act (Ends (body.Task n)) behind) vs))

-- there is a task of this number, and its called body stands at its own level
abbrev pub CalledTaskStands : App → ℕ → Option Task → List Line → BodyRow → Type 0
CalledTaskStands app n None code row = ⊥
CalledTaskStands app n (Some t) code row = CalledAtLevel app n t.priority t code row

-- the called body of a declared task stands, by its number
abbrev pub CalledBodyStands : App → ℕ → List Line → BodyRow → Type 0
CalledBodyStands app n code row = CalledTaskStands app n (slice_get app.tasks n) code row
