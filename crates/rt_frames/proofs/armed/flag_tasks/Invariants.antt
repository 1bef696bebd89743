-- The tasks that the tasks so far arm are flagged.
use Rattle.std.proofs.Common.{◌≡◌, map, flat_map, take}
use Rattle.rt_app.specs.View.{task_of}
use Rattle.rt_frames.specs.Inside.Flags.{flags_with, delayed_targets, task_spawns}
use Rattle.rt_frames.proofs.armed.flag_tasks.Given as goal

abbrev pub invariant-loop-task : goal.invariant-loop-task
invariant-loop-task l = l.armed ≡ flags_with
    (delayed_targets (flat_map task_spawns (map task_of (take l.task-index l.tasks)))) l.fn.armed
