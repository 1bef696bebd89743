-- The rows so far.
use Rattle.std.proofs.Common.{◌≡◌, flat_map, take}
use Rattle.rt_native.specs.Object.{row_wanted}
use Rattle.rt_native.proofs.object.all_wanted.Given as goal

abbrev pub invariant-loop-row : goal.invariant-loop-row
invariant-loop-row l = l.out.items ≡ flat_map (row_wanted l.calls) (take l.row-index l.rows)
