use Rattle.std.proofs.Common.{◌≡◌, ◌++◌, map, take, drop}
use Rattle.rt_bounds.specs.Inside.Gathered.{held}
use Rattle.rt_bounds.proofs.gathered.hold_all.Given as goal

abbrev pub invariant-loop-row : goal.invariant-loop-row
invariant-loop-row l =
    l.rows ≡ map (held l.bits l.entry l.longest) (take l.row-index l.fn.rows) ++ drop l.row-index l.fn.rows
