-- The greatest need of the tasks so far.
use Rattle.std.proofs.Common.{◌≡◌, map, take}
use Rattle.rt_app.specs.View.{task_of}
use Rattle.rt_ids.specs.Lists.{greatest}
use Rattle.rt_frames.specs.Inside.Saturated.{saturated_number}
use Rattle.rt_frames.specs.Inside.Needs.{need_at}
use Rattle.rt_frames.proofs.stack.tasks_need.Given as goal

abbrev pub invariant-loop-task : goal.invariant-loop-task
invariant-loop-task l = l.most ≡ saturated_number
    (greatest (map (need_at l.priority) (map task_of (take l.task-index l.tasks))))
