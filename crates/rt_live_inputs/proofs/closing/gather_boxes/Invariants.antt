use Rattle.std.proofs.Common.{vec_len}
use Rattle.rt_live_inputs.proofs.Ends.{GathersLast}
use Rattle.rt_live_inputs.proofs.closing.gather_boxes.Given as goal

abbrev pub invariant-loop-device : goal.invariant-loop-device
invariant-loop-device l = GathersLast l.fn.givers.items l.givers.items l.fn.takers l.takers

abbrev pub decreases-loop-device : goal.decreases-loop-device
decreases-loop-device l = vec_len l.givers
