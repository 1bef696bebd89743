use Rattle.std.proofs.Common.{◌≡◌, drop, find, bytes_eq}
use Rattle.rt_ids.specs.declared.op.Op.{Op}
use Rattle.rt_listing.specs.Words.{op_word}
use Rattle.rt_load.proofs.coding.op_among.Given as goal

-- it is none of those so far
abbrev pub invariant-loop-op : goal.invariant-loop-op
invariant-loop-op l =
    find (λ (o : Op). bytes_eq l.first (op_word o)) (drop l.op-index l.ops)
    ≡ find (λ (o : Op). bytes_eq l.first (op_word o)) l.ops
