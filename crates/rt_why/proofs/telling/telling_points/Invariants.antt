use Rattle.std.specs.List.{AllByRecursion}
use Rattle.rt_points.specs.Leading.{IsPoint}
use Rattle.rt_why.proofs.telling.telling_points.Given as goal

abbrev pub invariant-loop-mark : goal.invariant-loop-mark
invariant-loop-mark l = AllByRecursion (IsPoint l.image) l.points.items
