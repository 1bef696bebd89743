-- Priority values of the interrupt controller against logical priorities.
use Rattle.std.proofs.Common.{◌≡◌, ℕ, zero, suc, ◌-◌, ◌*◌, ◌^◌, ◌<◌, ◌≤◌, ◌⊎◌, nat_lt, ◌==◌, refl, inl, inr, sym, ap}
use Rattle.std.proofs.Common.{◌∙◌, lt-ltb, le-ltb, eq-eqb, ne_eqb, le_of_eq, le_of_lt, zero-mul, ⊎_elim, min, max}
use Rattle.std.proofs.Common.{arith}
use Rattle.std.proofs.Math.Nat.{min-eq_left, min-eq_right, max-eq_left, max-eq_right, mul-le-mul_right}
use Rattle.std.proofs.lemmas.Bool.{cases_order}
use Rattle.rt_ids.specs.declared.limits.TheConstants.{THREAD_VALUE}
use Rattle.rt_ids.specs.Priority.{hardware, TellsPriorities}

-- the value falls as the priority rises
pub hardware_falls : (b p q : ℕ) → 3 ≤ b → b ≤ 7 → p < q → q ≤ 2 ^ b → hardware b q < hardware b p
hardware_falls zero p q few many less within = absurd (omega arith)
hardware_falls (suc zero) p q few many less within = absurd (omega arith)
hardware_falls (suc (suc zero)) p q few many less within = absurd (omega arith)
hardware_falls (suc (suc (suc zero))) p q few many less within = omega arith
hardware_falls (suc (suc (suc (suc zero)))) p q few many less within = omega arith
hardware_falls (suc (suc (suc (suc (suc zero))))) p q few many less within = omega arith
hardware_falls (suc (suc (suc (suc (suc (suc zero)))))) p q few many less within = omega arith
hardware_falls (suc (suc (suc (suc (suc (suc (suc zero))))))) p q few many less within = omega arith
hardware_falls (suc (suc (suc (suc (suc (suc (suc (suc b)))))))) p q few many less within = absurd (omega arith)

-- the priority 0 masks nothing
pub hardware_of_none : (b : ℕ) → 3 ≤ b → b ≤ 7 → hardware b 0 ≡ THREAD_VALUE
hardware_of_none zero few many = absurd (omega arith)
hardware_of_none (suc zero) few many = absurd (omega arith)
hardware_of_none (suc (suc zero)) few many = absurd (omega arith)
hardware_of_none (suc (suc (suc zero))) few many = refl
hardware_of_none (suc (suc (suc (suc zero)))) few many = refl
hardware_of_none (suc (suc (suc (suc (suc zero))))) few many = refl
hardware_of_none (suc (suc (suc (suc (suc (suc zero)))))) few many = refl
hardware_of_none (suc (suc (suc (suc (suc (suc (suc zero))))))) few many = refl
hardware_of_none (suc (suc (suc (suc (suc (suc (suc (suc b)))))))) few many = absurd (omega arith)

-- the greatest priority masks all
pub hardware_of_all : (b : ℕ) → hardware b (2 ^ b) ≡ 0
hardware_of_all b = let none : 2 ^ b - 2 ^ b ≡ zero = omega arith in ap (λ n. n * 2 ^ (8 - b)) none
    ∙ zero-mul (2 ^ (8 - b))

pub hardware_order : (b p q : ℕ) → 3 ≤ b → b ≤ 7 → p ≤ 2 ^ b → q ≤ 2 ^ b → nat_lt (hardware b p) (hardware b q)
    ≡ nat_lt q p
hardware_order b p q few many p_within q_within = by_order (cases_order p q)
  where
    by_order : (p ≡ q) ⊎ ((p < q) ⊎ (q < p)) → nat_lt (hardware b p) (hardware b q) ≡ nat_lt q p
    by_order (inl same) =
        le-ltb (hardware b p) (hardware b q) (le_of_eq (ap (λ n. hardware b n) (sym same)))
        ∙ sym (le-ltb q p (le_of_eq same))
    by_order (inr (inl less)) = le-ltb (hardware b p) (hardware b q)
        (le_of_lt (hardware_falls b p q few many less q_within)) ∙ sym (le-ltb q p (omega arith))
    by_order (inr (inr more)) = lt-ltb (hardware b p) (hardware b q) (hardware_falls b q p few many more p_within)
        ∙ sym (lt-ltb q p more)

pub hardware_same : (b p q : ℕ) → 3 ≤ b → b ≤ 7 → p ≤ 2 ^ b → q ≤ 2 ^ b → (hardware b p == hardware b q) ≡ (p == q)
hardware_same b p q few many p_within q_within = by_order (cases_order p q)
  where
    by_order : (p ≡ q) ⊎ ((p < q) ⊎ (q < p)) → (hardware b p == hardware b q) ≡ (p == q)
    by_order (inl same) = eq-eqb (hardware b p) (hardware b q) (ap (λ n. hardware b n) same) ∙ sym (eq-eqb p q same)
    by_order (inr (inl less)) =
        let falls : hardware b q < hardware b p = hardware_falls b p q few many less q_within in
        ne_eqb (hardware b p) (hardware b q) (λ same. omega arith) ∙ sym (ne_eqb p q (λ same. omega arith))
    by_order (inr (inr more)) =
        let falls : hardware b p < hardware b q = hardware_falls b q p few many more p_within in
        ne_eqb (hardware b p) (hardware b q) (λ same. omega arith) ∙ sym (ne_eqb p q (λ same. omega arith))

-- of two priorities the higher has the lower value
pub lower_value : (b p q : ℕ) → min (hardware b p) (hardware b q) ≡ hardware b (max p q)
lower_value b p q = ⊎_elim (λ h. min-eq_right (falls p q h) ∙ sym (ap (λ n. hardware b n) (max-eq_right h)))
    (λ h. min-eq_left (falls q p h) ∙ sym (ap (λ n. hardware b n) (max-eq_left h))) (le_total p q)
  where
    falls : (m n : ℕ) → m ≤ n → hardware b n ≤ hardware b m
    falls m n h = let less : 2 ^ b - n ≤ 2 ^ b - m = omega arith in mul-le-mul_right (2 ^ (8 - b)) less

    le_total : (m n : ℕ) → (m ≤ n) ⊎ (n ≤ m)
    le_total m n = elim (cases_order m n) [
      | inl same ↦ inl (le_of_eq same)
      | inr r ↦
          ⊎_elim (λ less. inl (le_of_lt less)) (λ more. inr (le_of_lt more)) r
    ]

pub tells_priorities : TellsPriorities
tells_priorities = record {
  none = hardware_of_none;
  all = hardware_of_all;
  order = hardware_order;
  same =
      hardware_same;
  lower = lower_value;
}
