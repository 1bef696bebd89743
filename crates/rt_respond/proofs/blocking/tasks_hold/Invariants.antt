-- The most that one of the tasks so far holds off.
use Rattle.std.proofs.Common.{◌≡◌, map, take}
use Rattle.rt_app.specs.View.{task_of, app_of}
use Rattle.rt_respond.specs.Number.{greatest_of}
use Rattle.rt_respond.specs.Inside.Holding.{whole_task}
use Rattle.rt_respond.proofs.blocking.tasks_hold.Given as goal

abbrev pub invariant-loop-task : goal.invariant-loop-task
invariant-loop-task l =
    l.most ≡ greatest_of (map (λ t. whole_task (app_of l.app) l.held (task_of t)) (take l.task-index l.tasks))
