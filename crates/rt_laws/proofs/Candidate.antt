-- The candidate is the best of those that may start.
use Rattle.std.proofs.Common.{◌≡◌, ℕ, ◌==◌, ◌<◌, ◌≤◌, ◌⊎◌, Bool, true, false, ◌&&◌, ◌||◌, nat_lt, map, inl, inr, ⊎_elim}
use Rattle.std.proofs.Common.{◌∙◌, refl, arith}
use Rattle.std.proofs.lemmas.Bool.Decides.{nat_tests}
use Rattle.rt_ids.specs.Choice.{IsOrder}
use Rattle.rt_ids.proofs.Best.{best_is_best}
use Rattle.rt_laws.specs.Services.{priority_of}
use Rattle.rt_laws.specs.Preemption.{may_start, goes_before, IsNoLater, CandidateIsHighest}

-- by any priorities
module _ (priority : ℕ → ℕ) where
  abbrev before : ℕ → ℕ → Bool
  before irq other = nat_lt (priority other) (priority irq) || ((priority irq == priority other) && nat_lt irq other)

  abbrev NoLater : ℕ → ℕ → Type 0
  NoLater irq other = (priority other < priority irq) ⊎ ((priority irq ≡ priority other) × (irq ≤ other))

  later_than : (x y z : ℕ) → NoLater x y → NoLater y z → NoLater x z
  later_than x y z h k =
      ⊎_elim (λ l. ⊎_elim (λ m. inl (omega arith)) (λ m. inl (omega (arith, m.0))) k)
      (λ l. ⊎_elim (λ m. inl (omega (arith, l.0))) (λ m. inr (l.0 ∙ m.0, omega (arith, l.1, m.1))) k) h

  won : (x y : ℕ) → before x y ≡ true → NoLater x y
  won x y h = grind (arith, nat_tests)

  lost : (x y : ℕ) → before x y ≡ false → NoLater y x
  lost x y h = grind (arith, nat_tests)

  order : IsOrder before NoLater
  order = record {
    reflexive = λ x. inr (refl, omega arith);
    transitive = later_than;
    won = won;
    lost = lost;
  }

pub candidate_is_highest : CandidateIsHighest
candidate_is_highest app s = best_is_best (may_start app s) (goes_before app) (IsNoLater app)
    (order (priority_of app)) (map (λ d. d.number) app.irqs)
