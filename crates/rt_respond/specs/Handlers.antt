-- The handlers of an application, a row for each task: the interrupt in which its jobs run, and their order. A hardware
-- task runs in the interrupt that it binds, a message of a software task in that of its level's dispatcher (the RTIC 1
-- book, hardware tasks and software tasks), so that the rows of a level have one interrupt. An analysis with a
-- fixed order of all handlers is Audsley's (Optimal Priority Assignment and Feasibility of Static Priority Tasks with
-- Arbitrary Start Times, 1991). Here the order is that in which the interrupt controller takes pending interrupts: the
-- higher priority first, and of one priority the lower number (ARMv7-M Architecture Reference Manual, section B1.5.4).
-- Those of one priority do not preempt each other. Of the rows of a level none stands before another.
use Rattle.std.specs.Prelude.{ℕ, ◌+◌, ◌==◌, Bool, not, ◌&&◌, ◌||◌, nat_lt, List, [], ◌∷◌, ◌++◌, slice_get, Option}
use Rattle.std.specs.Prelude.{Some, None, if◌then◌else◌}
use Rattle.rt_ids.specs.Lists.{then_from}
use Rattle.rt_app.specs.Tree.{Block, Empty, Task, App}
use Rattle.rt_app.specs.BodyCost.{body_cost, dispatcher_cost, cost_measure}
use Rattle.rt_app.specs.Handlers.{dispatcher_of, irq_number}
use Rattle.rt_app.specs.Level.{is_software}
use Rattle.rt_respond.specs.declared.handler.Handler.{Handler}

module _ (app : App) where
  -- the interrupt in which the jobs of a task run: the one that it binds, else that of its level's dispatcher
  abbrev pub serving_irq : Task → Option ℕ → Option ℕ
  serving_irq t (Some irq) = Some irq
  serving_irq t None = dispatcher_of app t.priority

  -- the core steps of a job of a task, at most: of its body, or of the dispatcher that runs its message
  abbrev pub job_cost : Task → ℕ
  job_cost t = if is_software t then dispatcher_cost app t.priority else body_cost (cost_measure app) t.body

  -- the handler of a task of this number whose jobs run in this interrupt, of this number
  abbrev pub own_handler : ℕ → Task → Option ℕ → Option ℕ → List Handler
  own_handler n t (Some irq) (Some number) =
      record {
        irq = irq;
        number = number;
        priority = t.priority;
        task = n;
        steps = job_cost t;
        is_dispatcher = is_software t;
      } ∷ []
  own_handler n t irq number = []

  -- the handlers of the tasks from this number on
  abbrev pub task_handlers : ℕ → List Task → List Handler
  task_handlers n [] = []
  task_handlers n (t ∷ ts) =
      let irq = serving_irq t t.binds in
      own_handler n t irq (then_from irq (irq_number app)) ++ task_handlers (n + 1) ts

  -- the handlers of the tasks, in order of declaration
  abbrev pub handlers : List Handler
  handlers = task_handlers 0 app.tasks

  -- the block of a task, where there is one
  abbrev pub block_of_task : Option Task → Block
  block_of_task None = Empty
  block_of_task (Some t) = t.body.block

  -- the block of the task that a handler runs
  abbrev pub handled_block : Handler → Block
  handled_block h = block_of_task (slice_get app.tasks h.task)

-- a handler stands before another in the order
abbrev pub stands_before : Handler → Handler → Bool
stands_before h g =
    nat_lt g.priority h.priority || ((h.priority == g.priority) && nat_lt h.number g.number)

-- a handler is at this one: it is this one, or stands before it
abbrev pub is_at : Handler → Handler → Bool
is_at i h = not (stands_before i h)
