-- The arguments so far.
use Rattle.std.proofs.Common.{◌≡◌, ◌++◌, flat_map}
use Rattle.std.specs.List.{range_with_len}
use Rattle.rt_native.specs.Pieces.{write_slot}
use Rattle.rt_native.proofs.sequence.push_write_arguments.Given as goal

abbrev pub invariant-loop-k : goal.invariant-loop-k
invariant-loop-k l = l.out.items ≡ l.fn.out.items ++ flat_map (λ k. write_slot k k) (range_with_len 0 l.k)
