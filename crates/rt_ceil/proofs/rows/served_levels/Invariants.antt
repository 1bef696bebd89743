-- The levels of the tasks so far.
use Rattle.std.proofs.Common.{◌≡◌, map, take}
use Rattle.rt_app.specs.View.{task_of}
use Rattle.rt_ceil.specs.Inside.Rows as rows
use Rattle.rt_ceil.proofs.rows.served_levels.Given as goal

abbrev pub invariant-loop-task : goal.invariant-loop-task
invariant-loop-task l = l.served.items ≡ rows.served_levels (map task_of (take l.task-index l.tasks))
