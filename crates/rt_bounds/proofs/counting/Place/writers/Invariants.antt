use Rattle.std.proofs.Common.{◌≡◌, ◌≤◌, length, true, false}
use Rattle.std.specs.List.Sorted.{IsPartitionPoint}
use Rattle.rt_bounds.specs.Inside.Writtens.{CountTo, is_before}
use Rattle.rt_bounds.proofs.counting.Place.writers.Given as goal

abbrev pub invariant-loop-index : goal.invariant-loop-index
invariant-loop-index l = record {
  point : IsPartitionPoint (λ y. is_before l.slot l.self.first y ≡ true) (λ y. is_before l.slot l.self.first y ≡ false)
      l.written l.from;
  past : l.from ≤ l.index;
  few : l.index ≤ length l.written;
  so : CountTo l.walk l.self l.slot l.written l.index l.found;
}
