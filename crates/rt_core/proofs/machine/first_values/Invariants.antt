-- The first values of the rows so far.
use Rattle.std.proofs.Common.{◌≡◌, map, take}
use Rattle.rt_core.proofs.machine.first_values.Given as goal

abbrev pub invariant-loop-row : goal.invariant-loop-row
invariant-loop-row l = l.cells.items ≡ map (λ row. row.first) (take l.row-index l.rows)
