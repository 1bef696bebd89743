-- Those that are left are as many steps where all are.
use Rattle.std.proofs.Common.{◌≡◌, drop, nat_le}
use Rattle.std.specs.List.{list_all}
use Rattle.rt_baker_moves.proofs.spending.are_enough.Given as goal

abbrev pub invariant-loop-left : goal.invariant-loop-left
invariant-loop-left l = list_all (nat_le l.steps) l.lefts ≡ list_all (nat_le l.steps) (drop l.left-index l.lefts)
