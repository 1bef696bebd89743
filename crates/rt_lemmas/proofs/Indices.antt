-- On what stands at an index of a list that is one behind another.
use Rattle.std.proofs.Common.{◌≡◌, ◌⊎◌, ℕ, zero, suc, ◌+◌, ◌<◌, List, [], ◌∷◌, ◌++◌, length, map, get_or, Some}
use Rattle.std.proofs.Common.{slice_get, slice_set, Bool, false, refl, ap, inl, inr, arith}
use Rattle.std.proofs.lemmas.Option.{same_Some, none-some}

pub at_front : {X : Type 0} (xs ys : List X) (i : ℕ) → i < length xs → slice_get (xs ++ ys) i ≡ slice_get xs i
at_front [] ys i within = absurd (omega arith)
at_front (x ∷ xs) ys zero within = refl
at_front (x ∷ xs) ys (suc i) within = at_front xs ys i (omega arith)

pub at_back : {X : Type 0} (xs ys : List X) (i k : ℕ) → i ≡ length xs + k → slice_get (xs ++ ys) i ≡ slice_get ys k
at_back [] ys i k is = let e : i ≡ k = omega arith in ap (slice_get ys) e
at_back (x ∷ xs) ys zero k is = absurd (omega arith)
at_back (x ∷ xs) ys (suc i) k is = at_back xs ys i k (omega arith)

-- what stands there stands in the first list, or in the second
pub at_either : {X : Type 0} (xs ys : List X) (i : ℕ) (x : X) → slice_get (xs ++ ys) i ≡ Some x
    → ((i < length xs) × (slice_get xs i ≡ Some x)) ⊎ ((k : ℕ) × (i ≡ length xs + k) × (slice_get ys k ≡ Some x))
at_either [] ys i x at = inr (i, omega arith, at)
at_either (y ∷ xs) ys zero x at = inl (omega arith, at)
at_either (y ∷ xs) ys (suc i) x at = elim (at_either xs ys i x at) [
  | inl front ↦ (let within = front.0 in inl (omega arith, front.1))
  | inr back ↦ (let is = back.1 in inr (back.0, omega arith, back.2))
]

-- what is read with a default that differs from it stands there
pub at_read : {X Y : Type 0} (view : X → Y) (xs : List X) (i : ℕ) (y d : Y) → get_or (map view xs) i d ≡ y → ¬ (d ≡ y)
    → (x : X) × (slice_get xs i ≡ Some x) × (view x ≡ y)
at_read view [] i y d is differs = absurd (differs is)
at_read view (x ∷ xs) zero y d is differs = (x, refl, is)
at_read view (x ∷ xs) (suc i) y d is differs = at_read view xs i y d is differs

pub read_at : {X Y : Type 0} (view : X → Y) (xs : List X) (i : ℕ) (x : X) (d : Y) → slice_get xs i ≡ Some x
    → get_or (map view xs) i d ≡ view x
read_at view [] i x d at = absurd (none-some x at)
read_at view (y ∷ xs) zero x d at = ap view (same_Some y x at)
read_at view (y ∷ xs) (suc i) x d at = read_at view xs i x d at

pub there_is : {X : Type 0} (xs : List X) (i : ℕ) → i < length xs → (x : X) × (slice_get xs i ≡ Some x)
there_is [] i within = absurd (omega arith)
there_is (x ∷ xs) zero within = (x, refl)
there_is (x ∷ xs) (suc i) within = there_is xs i (omega arith)

-- what stands at an index of the front list stands there in both
pub get_left : {X : Type 0} (xs ys : List X) (i : ℕ) (x : X) → slice_get xs i ≡ Some x → slice_get (xs ++ ys) i ≡ Some x
get_left [] ys i x at = absurd (none-some x at)
get_left (z ∷ xs) ys zero x at = at
get_left (z ∷ xs) ys (suc i) x at = get_left xs ys i x at

-- of a list of tests, the one at an index is false once it is cleared
pub now_cleared : (xs : List Bool) (i : ℕ) → get_or (slice_set xs i false) i false ≡ false
now_cleared [] i = refl
now_cleared (x ∷ xs) zero = refl
now_cleared (x ∷ xs) (suc i) = now_cleared xs i
