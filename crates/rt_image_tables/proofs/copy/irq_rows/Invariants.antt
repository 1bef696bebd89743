use Rattle.std.proofs.Common.{◌≡◌, take}
use Rattle.rt_image_tables.proofs.copy.irq_rows.Given as goal

abbrev pub invariant-loop-row : goal.invariant-loop-row
invariant-loop-row l = l.copies.items ≡ take l.row-index l.from
