-- The tables after the tasks so far.
use Rattle.std.proofs.Common.{◌≡◌, map, take}
use Rattle.std.specs.List.{fold}
use Rattle.rt_app.specs.View.{task_of, app_of}
use Rattle.rt_ceil.specs.Inside.Tables.{used_by_task}
use Rattle.rt_ceil.proofs.bodies.count_tasks.Given as goal

abbrev pub invariant-loop-task : goal.invariant-loop-task
invariant-loop-task l = l.tables ≡ fold (used_by_task (app_of l.app)) l.fn.tables
    (map task_of (take l.task-index l.app.tasks.items))
