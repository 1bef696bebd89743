-- The text so far, with the lines that are left.
use Rattle.std.proofs.Common.{◌≡◌, ◌++◌, All, take, drop}
use Rattle.rt_listing.specs.Listing.{lines_with_numbers, code_line}
use Rattle.rt_listing.specs.Short.{HasShortInstr, HasShortNote, HasWordInstr, HasLevelNote}
use Rattle.rt_listing.proofs.text.push_code.Given as goal

abbrev pub invariant-loop-address : goal.invariant-loop-address
invariant-loop-address l = record {
  text : l.out.items ++ lines_with_numbers (code_line l.names) l.address (drop l.address l.code) ≡ l.fn.out.items
      ++ lines_with_numbers (code_line l.names) 0 l.code;
  instrs : All HasShortInstr (take l.address l.code);
  notes : All HasShortNote (take l.address l.code);
  words : All HasWordInstr (take l.address l.code);
  levels : All HasLevelNote (take l.address l.code);
}
