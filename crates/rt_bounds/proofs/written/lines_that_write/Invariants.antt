use Rattle.rt_bounds.specs.Inside.Writtens.{AreWrittenBelow}
use Rattle.rt_bounds.proofs.written.lines_that_write.Given as goal

abbrev pub invariant-loop-address : goal.invariant-loop-address
invariant-loop-address l = AreWrittenBelow l.image l.address l.rows.items
