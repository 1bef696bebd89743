use Rattle.std.proofs.Common.{take}
use Rattle.rt_why.specs.Witness.{AreOutside}
use Rattle.rt_why.proofs.guards.points_outside.Given as goal

abbrev pub invariant-loop-o : goal.invariant-loop-o
invariant-loop-o l = AreOutside l.image l.cell (take l.o-index l.opened) l.outside.items
