-- The symbols so far, with those that are left.
use Rattle.std.proofs.Common.{◌≡◌, ◌++◌, drop}
use Rattle.rt_native.specs.Symbols.{cell_symbols}
use Rattle.rt_native.proofs.symbols.push_cells.Given as goal

abbrev pub invariant-loop-cell : goal.invariant-loop-cell
invariant-loop-cell l = l.out.items ++ cell_symbols l.address (drop l.cell-index l.cells)
    ≡ l.fn.out.items ++ cell_symbols l.fn.address l.cells
