use Rattle.std.proofs.Common.{◌≡◌, ◌++◌, map, take, drop}
use Rattle.rt_bounds.specs.Inside.Gathered.{widened}
use Rattle.rt_bounds.proofs.gathered.widen.Given as goal

abbrev pub invariant-loop-row : goal.invariant-loop-row
invariant-loop-row l =
    l.rows ≡ map (widened l.section l.longest) (take l.row-index l.fn.rows) ++ drop l.row-index l.fn.rows
