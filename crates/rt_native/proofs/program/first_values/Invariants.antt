-- The values so far.
use Rattle.std.proofs.Common.{◌≡◌, map, take}
use Rattle.rt_native.proofs.program.first_values.Given as goal

abbrev pub invariant-loop-cell : goal.invariant-loop-cell
invariant-loop-cell l = l.out.items ≡ map (λ cell. cell.first) (take l.cell-index l.image.cells)
