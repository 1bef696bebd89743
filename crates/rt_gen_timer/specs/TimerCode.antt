-- The code of the calls that go to the timer queue and of the timer handler, by what the application determines (the
-- RTIC 1 book, `spawn_after`, `cancel`, `reschedule_after`, and the monotonic's interrupt). That it is made of these
-- numbers is this project's own.
use Rattle.std.specs.Prelude.{ℕ, ◌+◌, ◌&&◌, List, [], ◌∷◌, ◌++◌, if◌then◌else◌}
use Rattle.rt_ids.specs.Lists.{or_zero}
use Rattle.rt_ids.specs.declared.ids.Section.TheVariants as section
use Rattle.rt_app.specs.Tree.{Task, App}
use Rattle.rt_app.specs.Level.{is_software, is_armed, armed_messages, capacities_before}
use Rattle.rt_app.specs.Layout.{timer_at}
use Rattle.rt_app.specs.Holding.{storage}
use Rattle.rt_app.specs.Sending.{capacity_of}
use Rattle.rt_code.specs.declared.instr.Instr.TheVariants as instr
use Rattle.rt_gen_queue.specs.Line.{Line, plain}
use Rattle.rt_gen_queue.specs.Guards.{guard_of}
use Rattle.rt_gen_queue.specs.SpawnCode.{target_of}
use Rattle.rt_gen_timer.specs.TimerLines.{after_lines, cancel_lines, move_lines, front_lines, choice_lines}
use Rattle.rt_gen_timer.specs.declared.armed.ArmedTask.{ArmedTask}
use Rattle.rt_gen_timer.specs.declared.queue.TimerQueue.{TimerQueue}

module _ (app : App) where
  -- the timer queue of an application with a monotonic
  abbrev pub queue_of : TimerQueue
  queue_of = record {
    at = timer_at app;
    messages = armed_messages app;
    guard = guard_of app section.Timer;
    irq = or_zero (storage app).timer;
  }

  -- what the code for the timer queue has of a task
  abbrev pub armed_task : ℕ → ArmedTask
  armed_task n = record {
    target = target_of app n;
    first = capacities_before app n;
    rows = if is_armed app n then capacity_of app n else 0;
  }

  -- a `spawn_after` of a task in a body at a preemption threshold, whose 24 slots begin at one, from an address on
  abbrev pub after_code : ℕ → ℕ → ℕ → ℕ → List Line
  after_code task threshold slot at = after_lines queue_of slot threshold (armed_task task) at

  -- a `cancel` of a message of a task in a body at a preemption threshold, likewise
  abbrev pub cancel_code : ℕ → ℕ → ℕ → ℕ → List Line
  cancel_code task threshold slot at = cancel_lines queue_of slot threshold (armed_task task) at

  -- a `reschedule_after` of a message of a task in a body at a preemption threshold, likewise
  abbrev pub move_code : ℕ → ℕ → ℕ → ℕ → List Line
  move_code task threshold slot at = move_lines queue_of slot threshold (armed_task task) at

  -- the choices of the timer handler among these tasks, the first of which has this number, from an address on
  abbrev pub choices_code : ℕ → ℕ → ℕ → List Task → List Line
  choices_code threshold at n [] = []
  choices_code threshold at n (t ∷ more) =
      if is_software t && is_armed app n
      then choice_lines queue_of 0 threshold (armed_task n) at ++ choices_code threshold (at + 26) (n + 1) more
      else choices_code threshold at (n + 1) more

  -- The timer handler at a priority, from an address on. If the message were of no task, the handler would leave the
  -- section as where none is due; no message is so.
  abbrev pub timer_code : ℕ → ℕ → List Line
  timer_code threshold at =
      front_lines queue_of 0 threshold at
      ++ (choices_code threshold (at + 73) 0 app.tasks ++ plain (instr.Jump (at + 10)) ∷ [])
