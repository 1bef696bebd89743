use Rattle.std.proofs.Common.{◌≡◌, ℕ, ◌+◌, length, slice_index}
use Rattle.rt_words.proofs.Counting.{counted}
use Rattle.rt_words.proofs.tally.count_each.Given as goal

abbrev pub invariant-loop-bit : goal.invariant-loop-bit
invariant-loop-bit l = record {
  room : length l.counts ≡ length l.initial.counts;
  grown : (irq : ℕ) → slice_index l.counts irq ≡ slice_index l.initial.counts irq + counted l.word l.bits l.bit irq;
}
