use Rattle.std.proofs.Common.{vec_len}
use Rattle.rt_live_inputs.proofs.Ends.{ClosesLast}
use Rattle.rt_live_inputs.proofs.closing.close_boxes.Given as goal

abbrev pub invariant-loop-taker : goal.invariant-loop-taker
invariant-loop-taker l =
    ClosesLast l.kinds l.fn.takers.items l.takers.items l.boxes.items l.fn.rows l.rows

abbrev pub decreases-loop-taker : goal.decreases-loop-taker
decreases-loop-taker l = vec_len l.takers
