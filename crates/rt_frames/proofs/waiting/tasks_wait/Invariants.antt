-- The greatest so far, and that of the tasks that are left.
use Rattle.std.proofs.Common.{◌≡◌, max, map, drop}
use Rattle.rt_app.specs.View.{task_of, app_of}
use Rattle.rt_frames.specs.Inside.Waits.{tasks_wait}
use Rattle.rt_frames.proofs.waiting.tasks_wait.Given as goal

abbrev pub invariant-loop-number : goal.invariant-loop-number
invariant-loop-number l =
    max l.most (tasks_wait (app_of l.app) l.measure l.ceilings l.priority l.number
    (map task_of (drop l.number l.app.tasks.items))) ≡ tasks_wait (app_of l.app) l.measure l.ceilings l.priority 0
    (app_of l.app).tasks
