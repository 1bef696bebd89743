-- The text so far is that of the operations so far.
use Rattle.std.proofs.Common.{◌≡◌, ◌++◌, flat_map, take}
use Rattle.rt_listing.specs.Words.{op_word}
use Rattle.rt_cycles.specs.Report.{kind_line}
use Rattle.rt_cycles.proofs.text.push_operations.Given as goal

abbrev pub invariant-loop-op : goal.invariant-loop-op
invariant-loop-op l =
    l.out.items ≡ l.fn.out.items ++ flat_map (λ o. kind_line l.image (op_word o)) (take l.op-index l.ops)
