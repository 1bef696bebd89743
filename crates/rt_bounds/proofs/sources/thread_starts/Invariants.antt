use Rattle.rt_bounds.specs.Inside.Sources.{AreServed}
use Rattle.rt_bounds.proofs.sources.thread_starts.Given as goal

abbrev pub invariant-loop-to : goal.invariant-loop-to
invariant-loop-to l = AreServed l.image l.init l.to l.starts.items
