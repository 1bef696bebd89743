use Rattle.rt_live.proofs.Vocabulary.{None, length, slice_index_or, ℕ, ◌<◌, ◌≡◌}
use Rattle.rt_dual.proofs.Vocabulary.{forward}
use Rattle.rt_dual.proofs.routes.table_of.Given as goal

abbrev pub invariant-loop-number : goal.invariant-loop-number
invariant-loop-number l = record {
  all : length l.places.items ≡ l.number;
  so_far : (irq : ℕ) → irq < l.number → slice_index_or l.places.items irq None ≡ forward l.image l.other irq;
}
