-- Cells by name. The code keeps a table of them.
use Rattle.std.specs.Prelude.{ℕ, List, position, bytes_eq, slice_get, Option}
use Rattle.rt_ids.specs.Lists.{then_from}
use Rattle.rt_ids.specs.declared.cell.CellRow.{CellRow}
use Rattle.rt_code.specs.Image.{Image}

-- the number of the first cell of a name
abbrev pub cell_named : List CellRow → List ℕ → Option ℕ
cell_named cells name = position (λ cell. bytes_eq cell.name name) cells

-- the cell of a resource: the first of its name
abbrev pub resource_cell : Image → ℕ → Option ℕ
resource_cell img r = then_from (slice_get img.names.shared r) (cell_named img.cells)

-- the value of a resource in memory
abbrev pub resource_value : Image → List ℕ → ℕ → Option ℕ
resource_value img cells r = then_from (resource_cell img r) (slice_get cells)
