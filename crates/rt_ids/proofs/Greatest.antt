-- The greatest of some numbers.
use Rattle.std.proofs.Common.{◌≡◌, ℕ, zero, suc, ◌≤◌, max, Bool, true, false, if◌then◌else◌, List, [], ◌∷◌, ◌++◌, map}
use Rattle.std.proofs.Common.{filter, slice_get, Some, sym, subst, arith}
use Rattle.std.specs.List.{AllByRecursion}
use Rattle.std.proofs.lemmas.Option.{same_Some, none-some}
use Rattle.rt_ids.specs.Lists.{greatest}

pub greatest_append : (xs ys : List ℕ) → greatest (xs ++ ys) ≡ max (greatest xs) (greatest ys)
greatest_append [] ys = omega arith
greatest_append (x ∷ xs) ys = omega (arith, greatest_append xs ys)

-- what passes has no more than the greatest of those that pass
pub greatest_has : {X : Type 0} (f : X → ℕ) (test : X → Bool) (xs : List X) (i : ℕ) (x : X) → slice_get xs i ≡ Some x
    → test x ≡ true → f x ≤ greatest (map f (filter test xs))
greatest_has f test [] i x at is = absurd (none-some x at)
greatest_has f test (y ∷ xs) zero x at is =
    let same : y ≡ x = same_Some y x at in
    subst (λ z. f x ≤ greatest (map f (if test z then z ∷ filter test xs else filter test xs))) (sym same)
    (subst (λ b. f x ≤ greatest (map f (if b then x ∷ filter test xs else filter test xs))) (sym is) (omega arith))
greatest_has f test (y ∷ xs) (suc i) x at is = go (test y) (greatest_has f test xs i x at is)
  where
    go : (b : Bool) → f x ≤ greatest (map f (filter test xs)) → f x ≤ greatest
        (map f (if b then y ∷ filter test xs else filter test xs))
    go true less = omega arith
    go false less = less

-- and the greatest is no more than what each has
pub greatest_within : {X : Type 0} (f : X → ℕ) (test : X → Bool) (most : ℕ) (xs : List X)
    → AllByRecursion (λ x. f x ≤ most) xs → greatest (map f (filter test xs)) ≤ most
greatest_within f test most [] all = omega arith
greatest_within f test most (x ∷ xs) all = go (test x) all.0 (greatest_within f test most xs all.1)
  where
    go : (b : Bool) → f x ≤ most → greatest (map f (filter test xs)) ≤ most
        → greatest (map f (if b then x ∷ filter test xs else filter test xs)) ≤ most
    go true here there = omega arith
    go false here there = there
