-- What is pending where one interrupt is requested, and where it is taken.
use Rattle.std.proofs.Common.{◌≡◌, ℕ, zero, suc, ◌<◌, Bool, true, false, List, [], ◌∷◌, length, replicate}
use Rattle.std.proofs.Common.{slice_set, slice_index_or, refl, ap, arith}
use Rattle.rt_lemmas.proofs.Bools.{true_and_false}

-- whether it is pending
abbrev pub is_pending : List Bool → ℕ → Bool
is_pending pending irq = slice_index_or pending irq false

-- this one alone is
pub record PendsOnly (pending : List Bool) (irq : ℕ) : Type 0 where
  pub there : is_pending pending irq ≡ true
  pub only : (j : ℕ) → is_pending pending j ≡ true → j ≡ irq

-- none is
abbrev pub PendsNone : List Bool → Type 0
PendsNone pending = (j : ℕ) → is_pending pending j ≡ false

set_there : (xs : List Bool) (i : ℕ) → i < length xs → is_pending (slice_set xs i true) i ≡ true
set_there [] i within = absurd (omega arith)
set_there (x ∷ xs) zero within = refl
set_there (x ∷ xs) (suc i) within = set_there xs i (omega arith)

set_alone : (xs : List Bool) (i j : ℕ) → PendsNone xs → is_pending (slice_set xs i true) j ≡ true → j ≡ i
set_alone [] i j none is = absurd (true_and_false false is refl)
set_alone (x ∷ xs) zero zero none is = refl
set_alone (x ∷ xs) zero (suc j) none is = absurd (true_and_false (is_pending xs j) is (none (suc j)))
set_alone (x ∷ xs) (suc i) zero none is = absurd (true_and_false x is (none 0))
set_alone (x ∷ xs) (suc i) (suc j) none is = ap suc (set_alone xs i j (λ k. none (suc k)) is)

-- an interrupt is requested where none is pending
pub one_pends : (xs : List Bool) (i : ℕ) → PendsNone xs → i < length xs → PendsOnly (slice_set xs i true) i
one_pends xs i none within = record { there = set_there xs i within; only = λ j is. set_alone xs i j none is }

set_clear : (xs : List Bool) (i j : ℕ) → (is_pending xs j ≡ true → j ≡ i) → is_pending (slice_set xs i false) j ≡ false
set_clear [] i j only = refl
set_clear (x ∷ xs) zero zero only = refl
set_clear (true ∷ xs) (suc i) zero only = absurd (let no : zero ≡ suc i = only refl in omega arith)
set_clear (false ∷ xs) (suc i) zero only = refl
set_clear (x ∷ xs) zero (suc j) only = by (is_pending xs j) refl
  where
    by : (b : Bool) → is_pending xs j ≡ b → is_pending xs j ≡ false
    by true is = absurd (let no : suc j ≡ zero = only is in omega arith)
    by false is = is
set_clear (x ∷ xs) (suc i) (suc j) only =
    set_clear xs i j (λ is. let next : suc j ≡ suc i = only is in omega arith)

-- it is taken
pub none_pends : (xs : List Bool) (i : ℕ) → PendsOnly xs i → PendsNone (slice_set xs i false)
none_pends xs i pends = λ j. set_clear xs i j (pends.only j)

-- none is at reset
pub none_first : (n : ℕ) → PendsNone (replicate n false)
none_first zero j = refl
none_first (suc n) zero = refl
none_first (suc n) (suc j) = none_first n j
