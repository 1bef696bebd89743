use Rattle.rt_live.proofs.Vocabulary.{AllByRecursion, HasBits, IRQ_NUMBERS, IsPending, List, irqs_of, length}
use Rattle.rt_live.proofs.Vocabulary.{pending_bit, take, ℕ, ◌%◌, ◌++◌, ◌/◌, ◌<◌, ◌≡◌, ◌≢◌, ◌⊎◌}
use Rattle.rt_live.proofs.making.add_bits.Given as goal

abbrev pub invariant-loop-row : goal.invariant-loop-row
invariant-loop-row l = record {
  long : length l.may ≡ 32;
  own :
      (before : List ℕ) → HasBits l.core l.fn.may before
      → HasBits l.core l.may (before ++ irqs_of (take l.row-index l.rows));
  other : (bit : ℕ) → bit / 512 ≢ l.core → pending_bit l.may bit ≡ pending_bit l.fn.may bit;
  low :
      (bit : ℕ) → IsPending l.may bit → IsPending l.fn.may bit ⊎ ((bit / 512 ≡ l.core) × (bit % 512 < IRQ_NUMBERS));
  in_range : AllByRecursion (λ irq. irq < IRQ_NUMBERS) (irqs_of (take l.row-index l.rows));
}
