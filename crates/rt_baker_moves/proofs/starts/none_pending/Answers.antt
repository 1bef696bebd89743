use Rattle.std.proofs.Common.{false, replicate, ℕ, ap, ◌∙◌}
use Rattle.rt_baker_moves.proofs.starts.none_pending.Goals as goal

pub returns : goal.returns
returns c = c.in_ok-vec.ensures.items_if_clones_equal (λ y is. is) ∙ ap (λ (n : ℕ). replicate n false) c.from.ensures
