-- The priorities so far are flagged.
use Rattle.std.proofs.Common.{◌≡◌, map, take}
use Rattle.rt_app.specs.View.{task_of}
use Rattle.rt_frames.specs.Inside.Flags.{flags_with}
use Rattle.rt_frames.proofs.stack.flag_priorities.Given as goal

abbrev pub invariant-loop-task : goal.invariant-loop-task
invariant-loop-task l = l.flags ≡ flags_with (map (λ t. t.priority) (map task_of (take l.task-index l.tasks)))
    l.fn.flags
