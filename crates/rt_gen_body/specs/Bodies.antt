-- What is promised of the code of a body, wherever further code comes after it: from its entry on it does what the body
-- has to do, whatever others do to what is not its own, within the cost that is printed for it, and then ends as its
-- kind of body does (the RTIC 1 book: `init`, `idle`, hardware tasks, software tasks).
use Rattle.std.specs.Prelude.{◌≡◌, ℕ, ◌<◌, true, false, ◌++◌, ⊤, List, [], length, slice_get, Option, Some, None}
use Rattle.rt_actions.specs.Action.{Returns}
use Rattle.rt_actions.specs.Storage.{Starting, AtPriority}
use Rattle.rt_ids.specs.declared.ids.BodyId.{BodyId}
use Rattle.rt_ids.specs.declared.ids.BodyId.TheVariants as body
use Rattle.rt_app.specs.Tree.{Task, App}
use Rattle.rt_app.specs.Level.{is_software}
use Rattle.rt_app.specs.BodyCost.{cost_measure, body_cost, cost_of}
use Rattle.rt_app.specs.Frame.{frame_words}
use Rattle.rt_app.specs.Stack.{thread_words}
use Rattle.rt_app.specs.Layout.{memory}
use Rattle.rt_app.specs.Holding.{storage}
use Rattle.rt_app.specs.Sending.{act}
use Rattle.rt_app.specs.Doings.{nothing, init_doing, idle_doing, task_doing}
use Rattle.rt_code.specs.Standing.{StandsFrom}
use Rattle.rt_code.specs.declared.image.BodyRow.{BodyRow}
use Rattle.rt_gen_queue.specs.Line.{Line}
use Rattle.rt_gen_queue.specs.Called.{row_for, CalledBodyStands}

-- the code of a task that is bound to an interrupt stands at an address, wherever the thread goes on
abbrev pub TaskStands : App → ℕ → Option Task → List Line → ℕ → Type 0
TaskStands app n None code entry = ⊥
TaskStands app n (Some t) code entry =
    (bodies : List BodyRow) (thread : ℕ)
    → StandsFrom (storage app) code bodies thread (AtPriority t.priority) (length (memory app))
    (frame_words t.args t.body) entry (body_cost (cost_measure app) t.body) (task_doing app n [] (act Returns nothing))

-- the code of a declared task stands at an address: in its interrupt, or where its level's dispatcher calls it
pub record DeclaredStands (app : App) (n : ℕ) (code : List Line) (entry : ℕ) : Type 0 where
  pub bound : (t : Task) → slice_get app.tasks n ≡ Some t → is_software t ≡ false → TaskStands app n (Some t) code entry
  pub called : (t : Task) → slice_get app.tasks n ≡ Some t → is_software t ≡ true
      → CalledBodyStands app n code (row_for (λ k. entry) n t)

-- A body stands in this code, which goes as far as its end, and with more after it: `init` leads to what comes after
-- it, and `idle` to its own entry.
abbrev pub BodyStands : App → BodyId → List Line → ℕ → Type 0
BodyStands app body.Init code entry =
    (more : List Line) (bodies : List BodyRow)
    → StandsFrom (storage app) (code ++ more) bodies (length code) Starting (length (memory app))
    (thread_words app) entry (cost_of (cost_measure app) app.init) (init_doing app)
BodyStands app body.Idle code entry =
    (more : List Line) (bodies : List BodyRow)
    → StandsFrom (storage app) (code ++ more) bodies entry (AtPriority 0) (length (memory app))
    (thread_words app) entry (cost_of (cost_measure app) app.idle) (idle_doing app)
BodyStands app (body.Task n) code entry = (more : List Line) → DeclaredStands app n (code ++ more) entry

-- `init` and `idle`, declared or not, and the tasks
abbrev pub IsBodyOf : App → BodyId → Type 0
IsBodyOf app body.Init = ⊤
IsBodyOf app body.Idle = ⊤
IsBodyOf app (body.Task n) = n < length app.tasks
