-- Levels rise, and each has a dispatcher of its own.
use Rattle.std.proofs.Common.{◌≡◌, ℕ, zero, suc, ◌+◌, ◌<◌, ◌≤◌, Bool, true, false, List, [], ◌∷◌, ◌++◌, length, filter}
use Rattle.std.proofs.Common.{Contains, refl, sym, ap, subst, ◌∙◌, inl, inr, arith, if◌then◌else◌, append-nil}
use Rattle.std.specs.Prelude.{nat_lt}
use Rattle.std.specs.List.{AllByRecursion}
use Rattle.std.proofs.lemmas.Bool.{lt-ltb, le-ltb, ltb-true, ltb-false}
use Rattle.rt_lemmas.proofs.Membership.{all_append, contains_cases, contains_none}
use Rattle.rt_ids.specs.Lists.{those_below}
use Rattle.rt_app.proofs.SoundCeilings.{those_all}

abbrev pub IsRising : List ℕ → Type 0
IsRising [] = Unit {0}
IsRising (x ∷ xs) = AllByRecursion (λ y. x < y) xs × IsRising xs

rising_push : (xs : List ℕ) (n : ℕ) → IsRising xs → AllByRecursion (λ x. x < n) xs → IsRising (xs ++ n ∷ [])
rising_push [] n rising below = (tt, tt)
rising_push (x ∷ xs) n rising below = (
  all_append (λ y. x < y) xs (n ∷ []) rising.0 (below.0, tt),
  rising_push xs n rising.1 below.1,
)

one_more : (xs : List ℕ) (n : ℕ) (b : Bool) → IsRising xs → AllByRecursion (λ x. x < n) xs
    → IsRising (xs ++ (if b then n ∷ [] else []))
one_more xs n true rising below = rising_push xs n rising below
one_more xs n false rising below = subst IsRising (sym (append-nil xs)) rising

pub those_rise : (test : ℕ → Bool) (n : ℕ) → IsRising (those_below test n)
unfolding those_below
those_rise test zero = tt
those_rise test (suc n) = one_more (those_below test n) n (test n) (those_rise test n)
    (those_all (λ p. p < n) test n (λ p below is. below))

-- how many are greater than a number
abbrev pub above : ℕ → List ℕ → ℕ
above p xs = length (filter (nat_lt p) xs)

one_above : (p x : ℕ) (xs : List ℕ) (b : Bool) → nat_lt p x ≡ b → above p (x ∷ xs) ≡ (if b then 1 else 0) + above p xs
one_above p x xs true is = ap (λ b. length (if b then x ∷ filter (nat_lt p) xs else filter (nat_lt p) xs)) is
    ∙ omega arith
one_above p x xs false is = ap (λ b. length (if b then x ∷ filter (nat_lt p) xs else filter (nat_lt p) xs)) is
    ∙ omega arith

pub fewer_above : (p q : ℕ) (xs : List ℕ) → p ≤ q → above q xs ≤ above p xs
fewer_above p q [] less = omega arith
fewer_above p q (x ∷ xs) less = go (nat_lt q x) (nat_lt p x) refl refl (fewer_above p q xs less)
  where
    go : (b c : Bool) → nat_lt q x ≡ b → nat_lt p x ≡ c → above q xs ≤ above p xs → above q (x ∷ xs) ≤ above p (x ∷ xs)
    go true true d e rest = omega (arith, one_above q x xs true d, one_above p x xs true e)
    go true false d e rest = let more = ltb-true q x d in let not_more = ltb-false p x e in absurd (omega arith)
    go false true d e rest = omega (arith, one_above q x xs false d, one_above p x xs true e)
    go false false d e rest = omega (arith, one_above q x xs false d, one_above p x xs false e)

-- one of them, which is greater than a lesser number, is not greater than itself
pub more_above : (p q : ℕ) (xs : List ℕ) → p < q → Contains xs q → above q xs < above p xs
more_above p q [] less is = absurd (contains_none q is)
more_above p q (x ∷ xs) less is = elim (contains_cases x xs q is) [
  | inl same ↦ (let rest = fewer_above p q xs (omega arith) in
      omega (
        arith,
        rest,
        one_above q x xs false (le-ltb q x (omega arith)),
        one_above p x xs true (lt-ltb p x (omega arith)),
      ))
  | inr behind ↦ go (nat_lt q x) (nat_lt p x) refl refl (more_above p q xs less behind)
]
  where
    go : (b c : Bool) → nat_lt q x ≡ b → nat_lt p x ≡ c → above q xs < above p xs → above q (x ∷ xs) < above p (x ∷ xs)
    go true true d e rest = omega (arith, one_above q x xs true d, one_above p x xs true e)
    go true false d e rest = let more = ltb-true q x d in let not_more = ltb-false p x e in absurd (omega arith)
    go false true d e rest = omega (arith, one_above q x xs false d, one_above p x xs true e)
    go false false d e rest = omega (arith, one_above q x xs false d, one_above p x xs false e)

pub few_above : (p : ℕ) (xs : List ℕ) → above p xs ≤ length xs
few_above p [] = omega arith
few_above p (x ∷ xs) = go (nat_lt p x) refl (few_above p xs)
  where
    go : (b : Bool) → nat_lt p x ≡ b → above p xs ≤ length xs → above p (x ∷ xs) ≤ length (x ∷ xs)
    go true e rest = omega (arith, one_above p x xs true e)
    go false e rest = omega (arith, one_above p x xs false e)

-- and not all are greater than one of them
pub not_all_above : (p : ℕ) (xs : List ℕ) → Contains xs p → above p xs < length xs
not_all_above p [] is = absurd (contains_none p is)
not_all_above p (x ∷ xs) is = elim (contains_cases x xs p is) [
  | inl same ↦ omega (arith, few_above p xs, one_above p x xs false (le-ltb p x (omega arith)))
  | inr behind ↦ go (nat_lt p x) refl (not_all_above p xs behind)
]
  where
    go : (b : Bool) → nat_lt p x ≡ b → above p xs < length xs → above p (x ∷ xs) < length (x ∷ xs)
    go true e rest = omega (arith, one_above p x xs true e)
    go false e rest = omega (arith, one_above p x xs false e)
