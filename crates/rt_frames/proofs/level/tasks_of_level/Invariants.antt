-- The tasks so far are counted.
use Rattle.std.proofs.Common.{◌≡◌, map, take}
use Rattle.std.specs.Prelude.{count_by}
use Rattle.rt_app.specs.Level.{is_of_level}
use Rattle.rt_app.specs.View.{task_of}
use Rattle.rt_frames.proofs.level.tasks_of_level.Given as goal

abbrev pub invariant-loop-task : goal.invariant-loop-task
invariant-loop-task l = l.count ≡ count_by (is_of_level l.priority) (map task_of (take l.task-index l.tasks))
