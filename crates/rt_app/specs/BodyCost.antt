-- The cost and the size of whole bodies and handlers, and the size of the code that belongs to no body.
use Rattle.std.specs.Prelude.{ℕ, ◌+◌, ◌*◌, min, true, false, map, filter, sum_by, Option, Some, None}
use Rattle.rt_app.specs.declared.app.Mono.{Mono}
use Rattle.rt_app.specs.declared.costs.TheConstants.{MESSAGE_COST, READY_COST, READY_TASK_COST, TIMER_SECTION_COST}
use Rattle.rt_app.specs.declared.costs.TheConstants.{DISPATCHER_COST, TIMER_COST, TIMER_TASK_COST, SIZED_MESSAGES}
use Rattle.rt_app.specs.declared.costs.TheConstants.{DISPATCHER_TASK_SIZE, TIMER_TASK_SIZE, THREAD_SIZE}
use Rattle.rt_app.specs.declared.costs.TheConstants.{HANDLE_SECTION_COST, HANDLE_MESSAGE_COST}
use Rattle.rt_app.specs.Tree.{Body, App}
use Rattle.rt_app.specs.Level.{is_of_level, levels, tasks_of_level, armed_messages, armed_tasks}
use Rattle.rt_ids.specs.Lists.{greatest}
use Rattle.rt_app.specs.Cost.{Measure, capped_cost, block_cost}

-- counts core steps, with as many messages armed as may be
abbrev pub cost_measure : App → Measure
cost_measure app = record { messages = armed_messages app; is_size = false }

-- counts instructions; messages beyond `SIZED_MESSAGES` do not make code longer
abbrev pub size_measure : App → Measure
size_measure app = record { messages = min (armed_messages app) SIZED_MESSAGES; is_size = true }

-- the cost or the size of a body: its block and its end
abbrev pub body_cost : Measure → Body → ℕ
body_cost m b = capped_cost (block_cost m b.block + 1)

-- the cost or the size of a body; one that is not declared has its end alone
abbrev pub cost_of : Measure → Option Body → ℕ
cost_of m None = 1
cost_of m (Some b) = body_cost m b

-- the cost of the section of the ready queue in the dispatcher of a level
abbrev pub dispatcher_section_cost : App → ℕ → ℕ
dispatcher_section_cost app p = READY_COST + READY_TASK_COST * tasks_of_level app p

-- the cost of a section of the timer queue in a `spawn_after` and in the timer handler
abbrev pub timer_section_cost : App → ℕ
timer_section_cost app = TIMER_SECTION_COST + MESSAGE_COST * armed_messages app

-- the cost of a section of the timer queue in a `cancel` and a `reschedule_after`, which look for the message of a
-- handle
abbrev pub handle_section_cost : App → ℕ
handle_section_cost app = HANDLE_SECTION_COST + HANDLE_MESSAGE_COST * armed_messages app

-- the cost of a dispatcher, which runs one body of its level; this sum has no cap
abbrev pub dispatcher_cost : App → ℕ → ℕ
dispatcher_cost app p =
    DISPATCHER_COST + READY_TASK_COST * tasks_of_level app p
    + greatest (map (λ t. body_cost (cost_measure app) t.body) (filter (is_of_level p) app.tasks))

-- the cost of the timer handler, which grows with the messages and the tasks that may be armed
abbrev pub timer_cost : App → ℕ
timer_cost app = TIMER_COST + MESSAGE_COST * armed_messages app + TIMER_TASK_COST * armed_tasks app

-- the size of a dispatcher, which has code for each task of its level
abbrev pub dispatcher_size : App → ℕ → ℕ
dispatcher_size app p = DISPATCHER_COST + DISPATCHER_TASK_SIZE * tasks_of_level app p

-- the size of the timer handler, and 0 where there is no monotonic
abbrev pub timer_size : App → Option Mono → ℕ
timer_size app None = 0
timer_size app (Some mono) =
    TIMER_COST + MESSAGE_COST * min (armed_messages app) SIZED_MESSAGES + TIMER_TASK_SIZE * armed_tasks app

-- the size of the code that belongs to no body
abbrev pub shared_size : App → ℕ
shared_size app = sum_by (dispatcher_size app) (levels app) + timer_size app app.mono + THREAD_SIZE
