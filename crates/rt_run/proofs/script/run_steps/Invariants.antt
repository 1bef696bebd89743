use Rattle.std.proofs.Common.{◌≡◌, ◌-◌, ◌≤◌, replicate}
use Rattle.rt_ids.specs.Event.{Step}
use Rattle.rt_run.specs.Inside.Writing.{Writes}
use Rattle.rt_run.proofs.script.run_steps.Given as goal

abbrev pub invariant-loop-left : goal.invariant-loop-left
invariant-loop-left g l = record {
  run :
      Writes (replicate (l.fn.count - l.left) Step) l.fn.core l.core (g.K.Sink.taken l.fn.out) (g.K.Sink.taken l.out)
      l.fn.held l.held;
  within : l.left ≤ l.fn.count;
  quiet : g.K.Sink.faults l.out ≡ g.K.Sink.faults l.fn.out;
}

abbrev pub decreases-loop-left : goal.decreases-loop-left
decreases-loop-left g l = l.left
