use Rattle.std.specs.List.{AllByRecursion}
use Rattle.rt_points.specs.Leading.{IsPoint}
use Rattle.rt_why.proofs.telling.add_telling.Given as goal

abbrev pub invariant-loop : goal.invariant-loop
invariant-loop l = AllByRecursion (IsPoint l.image) l.points.items
