use Rattle.std.proofs.Common.{◌-◌, ◌≤◌, replicate}
use Rattle.rt_ids.specs.Event.{Step}
use Rattle.rt_count.specs.Inside.Counting.{Counted}
use Rattle.rt_count.specs.Joining.{CountsAtMost}
use Rattle.rt_count.proofs.counting.count_steps.Given as goal

abbrev pub invariant-loop-left : goal.invariant-loop-left
invariant-loop-left l = record {
  counted : Counted (replicate (l.fn.count - l.left) Step) l.fn.core l.core l.fn.summary l.summary;
  fewer : l.left ≤ l.fn.count;
  within : CountsAtMost l.core.steps l.summary;
}

abbrev pub decreases-loop-left : goal.decreases-loop-left
decreases-loop-left l = l.left
