-- The three calls that go to the timer queue, taken as one.
use Rattle.std.specs.Prelude.{ℕ, List}
use Rattle.rt_app.specs.Tree.{App}
use Rattle.rt_app.specs.declared.costs.TheConstants.{SPAWN_AFTER_COST, HANDLE_COST}
use Rattle.rt_gen_queue.specs.Line.{Line}
use Rattle.rt_gen_timer.specs.TimerLines.{after_lines, cancel_lines, move_lines}
use Rattle.rt_gen_timer.specs.TimerCode.{queue_of, armed_task}
use Rattle.rt_gen_timer.specs.declared.armed.ArmedTask.{ArmedTask}
use Rattle.rt_gen_timer.specs.declared.call.TimerCall.{TimerCall}
use Rattle.rt_gen_timer.specs.declared.call.TimerCall.TheVariants.{After, Cancel, Move}
use Rattle.rt_gen_timer.specs.declared.queue.TimerQueue.{TimerQueue}

-- the task of a call's message
abbrev pub message_task : TimerCall → ℕ
message_task (After task) = task
message_task (Cancel task) = task
message_task (Move task) = task

-- how many lines a call has at most
abbrev pub cost_of : TimerCall → ℕ
cost_of (After task) = SPAWN_AFTER_COST
cost_of (Cancel task) = HANDLE_COST
cost_of (Move task) = HANDLE_COST

-- the lines of a call on a timer queue, in a body at a preemption threshold whose slots begin at one, of a task, from
-- an address on
abbrev pub lines_of : TimerCall → TimerQueue → ℕ → ℕ → ArmedTask → ℕ → List Line
lines_of (After task) queue slot threshold armed at = after_lines queue slot threshold armed at
lines_of (Cancel task) queue slot threshold armed at = cancel_lines queue slot threshold armed at
lines_of (Move task) queue slot threshold armed at = move_lines queue slot threshold armed at

-- the lines of a call in an application
abbrev pub code_of : App → TimerCall → ℕ → ℕ → ℕ → List Line
code_of app call threshold slot at = lines_of call (queue_of app) slot threshold (armed_task app (message_task call)) at
