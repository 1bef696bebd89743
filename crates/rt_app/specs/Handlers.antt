-- Which interrupt serves what (the RTIC 1 book, hardware tasks, software tasks and the monotonic): a hardware task runs
-- in the interrupt that it binds, the software tasks of a level share a dispatcher, and the monotonic has an interrupt
-- of its own. That the highest level takes the dispatcher that is named first is this project's own.
use Rattle.std.specs.Prelude.{ℕ, ◌+◌, ◌==◌, Bool, nat_lt, List, [], ◌∷◌, ◌++◌, length, filter, flat_map, slice_get}
use Rattle.std.specs.Prelude.{Option, Some, None, option_map, is_none}
use Rattle.rt_ids.specs.Lists.{then_from}
use Rattle.rt_app.specs.declared.app.Mono.{Mono}
use Rattle.rt_app.specs.Tree.{Task, App}
use Rattle.rt_app.specs.Level.{levels}

-- what serves an interrupt
pub data Handler : Type 0 where
  -- the body of a hardware task
  Runs : (task : ℕ) → Handler
  -- the dispatcher of a level
  Dispatches : (level : ℕ) → Handler
  -- the timer handler
  Times : Handler

-- an interrupt that is served: its index in the order of declaration, what serves it, and the priority of that
pub record Service : Type 0 where
  pub irq : ℕ
  pub handler : Handler
  pub priority : ℕ

-- the dispatcher of a level: as many are named before it as there are higher levels
abbrev pub dispatcher_of : App → ℕ → Option ℕ
dispatcher_of app p = option_map (λ d. d.irq) (slice_get app.dispatchers (length (filter (nat_lt p) (levels app))))

-- a task serves the interrupt that it binds
abbrev pub bound_service : ℕ → Task → Option ℕ → List Service
bound_service n t None = []
bound_service n t (Some irq) = record { irq = irq; handler = Runs n; priority = t.priority } ∷ []

-- what serves the interrupts that the tasks from this number on bind
abbrev pub task_services : ℕ → List Task → List Service
task_services n [] = []
task_services n (t ∷ ts) = bound_service n t t.binds ++ task_services (n + 1) ts

-- a dispatcher serves the interrupt that is named for its level
abbrev pub dispatcher_service : ℕ → Option ℕ → List Service
dispatcher_service p None = []
dispatcher_service p (Some irq) = record { irq = irq; handler = Dispatches p; priority = p } ∷ []

-- the timer handler serves that of the monotonic
abbrev pub timer_service : Option Mono → List Service
timer_service None = []
timer_service (Some mono) = record { irq = mono.irq; handler = Times; priority = mono.priority } ∷ []

-- the interrupts that are enabled: those of hardware tasks, of the dispatchers in use, and of the monotonic
abbrev pub services : App → List Service
services app = task_services 0 app.tasks
    ++ (flat_map (λ p. dispatcher_service p (dispatcher_of app p)) (levels app) ++ timer_service app.mono)

-- what serves an interrupt, by its index
abbrev pub service_of : App → ℕ → List Service
service_of app irq = filter (λ s. s.irq == irq) (services app)

-- the number of an interrupt, by its index
abbrev pub irq_number : App → ℕ → Option ℕ
irq_number app irq = option_map (λ d. d.number) (slice_get app.irqs irq)

-- a form of applications: there is no monotonic
abbrev pub has_no_monotonic : App → Bool
has_no_monotonic app = is_none app.mono

-- the number of the interrupt that a task binds
abbrev pub bound_number : App → Task → Option ℕ
bound_number app t = then_from t.binds (irq_number app)
