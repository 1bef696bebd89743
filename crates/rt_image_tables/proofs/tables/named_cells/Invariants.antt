use Rattle.std.proofs.Common.{◌≡◌, map, take}
use Rattle.rt_code.specs.Cells.{cell_named}
use Rattle.rt_image_tables.proofs.tables.named_cells.Given as goal

abbrev pub invariant-loop-index : goal.invariant-loop-index
invariant-loop-index l = l.table.items ≡ map (cell_named l.cells) (take l.index l.names.shared)
