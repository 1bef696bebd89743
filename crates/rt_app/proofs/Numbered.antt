-- Numbers that are used for something, none twice.
use Rattle.std.proofs.Common.{◌≡◌, ℕ, ◌==◌, false, List, [], ◌∷◌, map, Contains, refl, subst, inl, inr, eq-eqb}
use Rattle.std.specs.List.{list_any}
use Rattle.rt_lemmas.proofs.Bools.{left_of_none, right_of_none, true_and_false}
use Rattle.rt_lemmas.proofs.Lists.{append_none_left, append_none_right}
use Rattle.rt_lemmas.proofs.Membership.{contains_cases, contains_none}
use Rattle.rt_ids.specs.Lists.{AreDifferent}
use Rattle.rt_ids.specs.declared.rule.Rule.TheVariants as rule
use Rattle.rt_app.specs.Declarations.{Used, used_twice}
use Rattle.rt_app.specs.Violation.{when}
use Rattle.rt_app.proofs.Unbroken.{not_broken}
use Rattle.rt_app.proofs.Different.{different_none, different_cons}

abbrev pub numbers_of : List Used → List ℕ
numbers_of us = map (λ u. u.number) us

module _ (before : List ℕ) (u : Used) (us : List Used) (fine : used_twice before (u ∷ us) ≡ []) where
  first : list_any (λ n. n == u.number) before ≡ false
  first = not_broken _ rule.InterruptUsedTwice u.at
      (append_none_left (when (list_any (λ n. n == u.number) before) rule.InterruptUsedTwice u.at)
      (used_twice (u.number ∷ before) us) fine)

  rest : used_twice (u.number ∷ before) us ≡ []
  rest = append_none_right (when (list_any (λ n. n == u.number) before) rule.InterruptUsedTwice u.at)
      (used_twice (u.number ∷ before) us) fine

fresh : (before : List ℕ) (us : List Used) → used_twice before us ≡ [] → (n : ℕ) → Contains (numbers_of us) n
    → list_any (λ k. k == n) before ≡ false
fresh before [] fine n is = absurd (contains_none n is)
fresh before (u ∷ us) fine n is = elim (contains_cases u.number (numbers_of us) n is) [
  | inl same ↦ subst (λ n. list_any (λ k. k == n) before ≡ false) same (first before u us fine)
  | inr behind ↦ right_of_none (u.number == n) (list_any (λ k. k == n) before)
      (fresh (u.number ∷ before) us (rest before u us fine) n behind)
]

pub numbers_differ : (before : List ℕ) (us : List Used) → used_twice before us ≡ [] → AreDifferent (numbers_of us)
numbers_differ before [] fine = different_none
numbers_differ before (u ∷ us) fine =
    different_cons u.number (numbers_of us)
    (λ is. true_and_false (u.number == u.number) (eq-eqb u.number u.number refl)
    (left_of_none (u.number == u.number) (list_any (λ k. k == u.number) before)
    (fresh (u.number ∷ before) us (rest before u us fine) u.number is)))
    (numbers_differ (u.number ∷ before) us (rest before u us fine))
