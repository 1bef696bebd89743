use Rattle.rt_bounds.specs.Inside.Whole.{AreFirstTo}
use Rattle.rt_bounds.proofs.bounding.first_waits.Given as goal

abbrev pub invariant-loop-number : goal.invariant-loop-number
invariant-loop-number l = AreFirstTo l.image l.number l.waits.items
