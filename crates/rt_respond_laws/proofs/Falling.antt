-- Numbers that fall from one to the next are no more than the numbers that pass the test that each of them passes.
use Rattle.std.proofs.Common.{◌≡◌, ℕ, zero, suc, ◌+◌, ◌≤◌, ◌<◌, ◌==◌, Bool, true, not, if◌then◌else◌, inl, inr}
use Rattle.std.proofs.Common.{count_by}
use Rattle.std.proofs.Common.{List, [], ◌∷◌, ◌++◌, length, ap, subst, ◌∙◌, arith}
use Rattle.std.specs.List.{AllByRecursion}
use Rattle.std.proofs.lemmas.Bool.{eqb-true, cases_lt}
use Rattle.std.proofs.lemmas.List.Sums.{sum_by-append}
use Rattle.rt_lemmas.proofs.Bools.{not_so}
use Rattle.rt_ids.specs.Lists.{those_below}
use Rattle.rt_laws.proofs.ItemCounts.{one_if}

-- each is below the one before it, and the first below this
abbrev pub Falls : ℕ → List ℕ → Type 0
Falls n [] = Unit {0}
Falls n (p ∷ ps) = (p < n) × Falls p ps

-- each passes the test, and is not this one
abbrev pub PassEach : (ℕ → Bool) → ℕ → List ℕ → Type 0
PassEach test own ps = AllByRecursion (λ p. (test p ≡ true) × ¬ (p ≡ own)) ps

pub counts_join : (test : ℕ → Bool) (xs ys : List ℕ) → count_by test (xs ++ ys) ≡ count_by test xs + count_by test ys
counts_join test xs ys = sum_by-append (λ n. one_if (test n)) xs ys

module _ (test : ℕ → Bool) (own : ℕ) where
  abbrev pub counted_below : ℕ → ℕ
  counted_below n = count_by (λ p. not (p == own)) (those_below test n)

  one_more : (n : ℕ) → counted_below (suc n)
      ≡ counted_below n + count_by (λ p. not (p == own)) (if test n then n ∷ [] else [])
  unfolding those_below
  one_more n = counts_join (λ p. not (p == own)) (those_below test n) (if test n then n ∷ [] else [])

  counts_own : (n : ℕ) → test n ≡ true → ¬ (n ≡ own)
      → count_by (λ p. not (p == own)) (if test n then n ∷ [] else []) ≡ 1
  counts_own n is other =
      ap (λ b. count_by (λ p. not (p == own)) (if b then n ∷ [] else [])) is
      ∙ ap (λ b. 0 + one_if b) (ap not (not_so (n == own) (λ same. other (eqb-true n own same))))

  pub falls_within : (n : ℕ) (ps : List ℕ) → Falls n ps → PassEach test own ps → length ps ≤ counted_below n
  falls_within n [] falls pass = omega arith
  falls_within zero (p ∷ ps) falls pass = let none = falls.0 in absurd (omega (arith, none))
  falls_within (suc n) (p ∷ ps) falls pass = elim (cases_lt p n) [
    | inl below ↦
        let rest = falls_within n (p ∷ ps) (below, falls.1) pass in
        let more = one_more n in omega (arith, rest, more)
    | inr past ↦
        let first = falls.0 in
        let same : p ≡ n = omega (arith, past, first) in
        let rest = falls_within n ps (subst (λ k. Falls k ps) same falls.1) pass.1 in
        let more = one_more n in
        let one = counts_own n (subst (λ k. test k ≡ true) same pass.0.0) (subst (λ k. ¬ (k ≡ own)) same pass.0.1) in
        omega (arith, rest, more, one)
  ]
