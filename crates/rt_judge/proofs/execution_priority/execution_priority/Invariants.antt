use Rattle.std.proofs.Common.{◌≡◌, drop}
use Rattle.rt_points.specs.ExecutionPriority.{owner_value}
use Rattle.rt_judge.proofs.ExecutionPriority.{priority_over}
use Rattle.rt_judge.proofs.execution_priority.execution_priority.Given as goal

abbrev pub invariant-loop-o : goal.invariant-loop-o
invariant-loop-o l = priority_over l.value (drop l.o-index l.opened)
    ≡ priority_over (owner_value l.fn.image l.fn.owner) l.opened
