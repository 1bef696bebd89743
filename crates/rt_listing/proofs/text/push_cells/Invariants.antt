-- The text so far, with the lines that are left.
use Rattle.std.proofs.Common.{◌≡◌, ◌++◌, All, take, drop}
use Rattle.rt_listing.specs.Listing.{lines_with_numbers, cell_line}
use Rattle.rt_listing.specs.Short.{IsShortCell, IsWordCell}
use Rattle.rt_listing.proofs.text.push_cells.Given as goal

abbrev pub invariant-loop-number : goal.invariant-loop-number
invariant-loop-number l = record {
  text : l.out.items ++ lines_with_numbers cell_line l.number (drop l.number l.cells) ≡ l.fn.out.items
      ++ lines_with_numbers cell_line 0 l.cells;
  short : All IsShortCell (take l.number l.cells);
  words : All IsWordCell (take l.number l.cells);
}
