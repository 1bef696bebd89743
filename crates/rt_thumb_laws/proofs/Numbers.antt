-- The numbers below one, in their order.
use Rattle.std.proofs.Common.{◌≡◌, ℕ, zero, suc, ◌<◌, ◌≤◌, List, [], ◌∷◌, ◌++◌, subst, arith, ⊎_elim}
use Rattle.std.specs.List.{AllByRecursion}
use Rattle.std.proofs.lemmas.Bool.{cases_lt}
use Rattle.rt_ids.specs.Lists.{numbers_below}
use Rattle.rt_ids.proofs.Lists.{all_push}
use Rattle.rt_lemmas.proofs.Membership.{all_weaker}

pub all_below : (n : ℕ) → AllByRecursion (λ x. x < n) (numbers_below n)
unfolding numbers_below
all_below zero = tt
all_below (suc n) =
    all_push (λ x. x < suc n) (numbers_below n) n
    (all_weaker (λ x. x < n) (λ x. x < suc n) (λ x below. omega arith) (numbers_below n) (all_below n)) (omega arith)

-- each number is no greater than those behind it
abbrev pub IsRising : List ℕ → Type 0
IsRising [] = Unit {0}
IsRising (x ∷ xs) = AllByRecursion (λ y. x ≤ y) xs × IsRising xs

rising_push : (xs : List ℕ) (n : ℕ) → AllByRecursion (λ x. x < n) xs → IsRising xs → IsRising (xs ++ n ∷ [])
rising_push [] n all rising = (tt, tt)
rising_push (x ∷ xs) n all rising =
    let below = all.0 in
    (all_push (λ y. x ≤ y) xs n rising.0 (omega arith), rising_push xs n all.1 rising.1)

pub numbers_rise : (n : ℕ) → IsRising (numbers_below n)
unfolding numbers_below
numbers_rise zero = tt
numbers_rise (suc n) = rising_push (numbers_below n) n (all_below n) (numbers_rise n)

all_parts : (P : ℕ → Type 0) (xs : List ℕ) (n : ℕ) → AllByRecursion P (xs ++ n ∷ []) → AllByRecursion P xs × P n
all_parts P [] n all = (tt, all.0)
all_parts P (x ∷ xs) n all = let rest = all_parts P xs n all.1 in ((all.0, rest.0), rest.1)

-- what holds of all holds of each
pub at_number : (P : ℕ → Type 0) (n : ℕ) → AllByRecursion P (numbers_below n) → (k : ℕ) → k < n → P k
unfolding numbers_below
at_number P zero all k below = absurd (omega arith)
at_number P (suc n) all k below =
    let parts = all_parts P (numbers_below n) n all in
    ⊎_elim (λ less. at_number P n parts.0 k less) (λ more. let same : n ≡ k = omega arith in subst P same parts.1)
    (cases_lt k n)
