-- The text so far is that of the lines so far.
use Rattle.std.proofs.Common.{◌≡◌, ◌++◌, flat_map, take}
use Rattle.rt_print.proofs.Lines.{line_of}
use Rattle.rt_print.proofs.block.+block.Given as goal

abbrev pub invariant-push_lines-loop-stmt : goal.invariant-push_lines-loop-stmt
invariant-push_lines-loop-stmt l = l.out.items ≡ l.fn.out.items ++ flat_map (line_of l.margin)
    (take l.stmt-index l.stmts)
