-- The arguments so far.
use Rattle.std.proofs.Common.{◌≡◌, ◌+◌, ◌++◌, flat_map}
use Rattle.std.specs.List.{range_with_len}
use Rattle.rt_ids.specs.Operation.{wrapped_number as word}
use Rattle.rt_native.specs.Pieces.{read_slot}
use Rattle.rt_native.proofs.sequence.push_read_arguments.Given as goal

abbrev pub invariant-loop-k : goal.invariant-loop-k
invariant-loop-k l = l.out.items
    ≡ l.fn.out.items ++ flat_map (λ k. read_slot k (word (l.fn.slot + k))) (range_with_len 0 l.k)
