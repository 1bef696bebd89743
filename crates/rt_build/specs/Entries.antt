-- The tables of an image that lead into its code, by the addresses of first instructions: which address and frame an
-- interrupt has, and which a body that is called (ARMv7-M Architecture Reference Manual, section B1.5, on vectors and
-- priorities; that bodies are called by rows of a table is this project's own). The code keeps vectors of addresses, by
-- task and by level.
use Rattle.std.specs.Prelude.{ℕ, ◌+◌, List, [], ◌∷◌, slice_get, Option, Some, None, option_map}
use Rattle.rt_ids.specs.Priority.{hardware}
use Rattle.rt_app.specs.declared.app.IrqDecl.{IrqDecl}
use Rattle.rt_app.specs.declared.costs.TheConstants.{DISPATCHER_WORDS, TIMER_WORDS}
use Rattle.rt_app.specs.Tree.{Task, App}
use Rattle.rt_app.specs.Frame.{frame_words}
use Rattle.rt_app.specs.Handlers.{Handler, Runs, Dispatches, Times, Service, service_of}
use Rattle.rt_code.specs.declared.image.Handler as row
use Rattle.rt_code.specs.declared.image.IrqRow.{IrqRow}

-- Addresses of first instructions: where the thread goes on after `init`, of the body of each task, of the dispatcher
-- of each level, and of the timer handler. `init` is at 0, where a core begins.
pub record Entries : Type 0 where
  pub idle : ℕ
  pub task : ℕ → ℕ
  pub dispatcher : ℕ → ℕ
  pub timer : ℕ

-- the address of the first instruction of a handler
abbrev pub entry_of : Entries → Handler → ℕ
entry_of at (Runs n) = at.task n
entry_of at (Dispatches p) = at.dispatcher p
entry_of at Times = at.timer

-- the words of a task's frame, none where no task is
abbrev pub task_words : Option Task → ℕ
task_words None = 0
task_words (Some t) = frame_words t.args t.body

-- the words of a handler's frame
abbrev pub handler_words : App → Handler → ℕ
handler_words app (Runs n) = task_words (slice_get app.tasks n)
handler_words app (Dispatches p) = DISPATCHER_WORDS
handler_words app Times = TIMER_WORDS

module _ (app : App) (at : Entries) where
  -- the handler in the row of an interrupt that is served: its priority value, its entry and its frame
  abbrev pub handler_row : Service → row.Handler
  handler_row s = record {
    value = hardware app.bits s.priority;
    entry = entry_of at s.handler;
    frame = handler_words app s.handler;
  }

  -- The declared interrupts in order, the first of which has this index. One that serves nothing is not enabled; that
  -- none serves two is a rule of the language.
  abbrev pub irq_rows : ℕ → List IrqDecl → List IrqRow
  irq_rows i [] = []
  irq_rows i (d ∷ more) =
      record { name = d.name; number = d.number; handler = option_map handler_row (slice_get (service_of app i) 0) }
      ∷ irq_rows (i + 1) more
