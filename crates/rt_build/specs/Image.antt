-- What an image of an application is: its tables say what the application declares, where its interrupts are served and
-- from which address, and at these addresses the code stands, that is, does what the bodies mean within the printed
-- costs and in the printed frames (the RTIC 1 book: `init` runs first and then `idle`, a hardware task in its
-- interrupt, a software task from its dispatcher, and the monotonic has an interrupt of its own). The order of the
-- parts of the code, and how many instructions they may have, are fixed; beyond that the code is the compiler's choice.
use Rattle.std.specs.Prelude.{◌≡◌, ◌≤◌, ℕ, Bool, false, List, length, map, slice_get, Option, Some, None, if◌then◌else◌}
use Rattle.std.specs.Prelude.{Contains}
use Rattle.rt_ids.specs.Lists.{is_some_and}
use Rattle.rt_actions.specs.Storage.{Starting, AtPriority}
use Rattle.rt_app.specs.declared.app.Mono.{Mono}
use Rattle.rt_app.specs.declared.costs.TheConstants.{DISPATCHER_WORDS, TIMER_WORDS}
use Rattle.rt_app.specs.Tree.{Body, Task, App}
use Rattle.rt_app.specs.Level.{is_software, is_of_level, levels}
use Rattle.rt_app.specs.BodyCost.{cost_measure, body_cost, cost_of, dispatcher_cost, timer_cost}
use Rattle.rt_app.specs.Doings.{init_doing, idle_doing, dispatcher_doing, timer_doing}
use Rattle.rt_app.specs.Holding.{storage}
use Rattle.rt_app.specs.Layout.{memory, layout}
use Rattle.rt_app.specs.Names.{names_of}
use Rattle.rt_app.specs.Stack.{thread_words, stack_bytes}
use Rattle.rt_code.specs.Image.{Image}
use Rattle.rt_code.specs.Standing.{StandsFrom}
use Rattle.rt_code.specs.declared.image.BodyRow.{BodyRow}
use Rattle.rt_code.specs.declared.instr.Instr.{Instr}
use Rattle.rt_code.specs.declared.instr.Instr.TheVariants as instr
use Rattle.rt_code.specs.declared.instr.Note.{Note}
use Rattle.rt_gen_body.specs.Bodies.{TaskStands}
use Rattle.rt_gen_queue.specs.Called.{rows_for}
use Rattle.rt_build.specs.Entries.{Entries, irq_rows}
use Rattle.rt_build.specs.Order.{IsInOrder, code_size}

-- `idle` leads back to itself; where it is not declared, the thread waits for interrupts
abbrev pub IdleStands : App → List (Instr × Option Note) → List BodyRow → ℕ → Option Body → Type 0
IdleStands app code bodies entry None = slice_get code entry ≡ Some (instr.Wait, None)
IdleStands app code bodies entry (Some b) =
    StandsFrom (storage app) code bodies entry (AtPriority 0) (length (memory app)) (thread_words app) entry
    (body_cost (cost_measure app) b) (idle_doing app)

-- The rows of bodies as code sees them that may call the bodies of the tasks that pass, and no others: any other row
-- leads to an address past all code.
abbrev pub callable_rows : App → (Task → Bool) → ℕ → List BodyRow → List BodyRow
callable_rows app test behind rows =
    map (λ row. if is_some_and test (slice_get app.tasks row.task) then row else record row { entry = behind }) rows

module _ (app : App) (at : Entries) where
  -- the tables of the image say what the application declares, and where its code is entered
  pub record HasTables (img : Image) : Type 0 where
    pub bits : img.bits ≡ app.bits
    -- whether the core has the floating-point extension
    pub fpu : img.fpu ≡ app.fpu
    pub names : img.names ≡ names_of app
    pub stack : img.stack_bytes ≡ stack_bytes app
    pub thread : img.thread_words ≡ thread_words app
    pub cells : img.cells ≡ (layout app).cells
    pub irqs : img.irqs ≡ irq_rows app at 0 app.irqs
    pub bodies : img.bodies ≡ rows_for at.task 0 app.tasks

  -- The code stands at each entry for what is served there. The thread, hardware tasks and the timer handler call no
  -- body, and a dispatcher those of its level alone. That a called body stands is part of this: it is code that the
  -- dispatcher runs.
  pub record HasCode (img : Image) : Type 0 where
    pub init : (bodies : List BodyRow)
        → StandsFrom (storage app) img.code bodies at.idle Starting (length (memory app)) (thread_words app) 0
        (cost_of (cost_measure app) app.init) (init_doing app)
    pub idle : (bodies : List BodyRow) → IdleStands app img.code bodies at.idle app.idle
    pub tasks : (n : ℕ) (t : Task) → slice_get app.tasks n ≡ Some t → is_software t ≡ false
        → TaskStands app n (Some t) img.code (at.task n)
    pub dispatchers : (p : ℕ) → Contains (levels app) p → (thread : ℕ)
        → StandsFrom (storage app) img.code (callable_rows app (is_of_level p) (length img.code) img.bodies) thread
        (AtPriority p) (length (memory app)) DISPATCHER_WORDS (at.dispatcher p) (dispatcher_cost app p)
        (dispatcher_doing app p)
    -- where there is a monotonic
    pub timer : (mono : Mono) → app.mono ≡ Some mono → (bodies : List BodyRow) (thread : ℕ)
        → StandsFrom (storage app) img.code bodies thread (AtPriority mono.priority) (length (memory app)) TIMER_WORDS
        at.timer (timer_cost app) (timer_doing app)

-- An image of an application: for some entries its tables lead to them, its code stands at them, the parts of the code
-- lie in their order, and there are no more instructions than the rule on sizes counts.
pub record IsImageOf (app : App) (img : Image) : Type 0 where
  pub at : Entries
  pub tables : HasTables app at img
  pub code : HasCode app at img
  -- the parts of the code lie in their order, and there is nothing between them or after them
  pub order : IsInOrder app at img.code
  pub size : length img.code ≤ code_size app
