-- Functions on lists, numbers and options that the standard library lacks.
use Rattle.std.specs.Prelude.{◌≡◌, ℕ, zero, suc, max, Bool, true, false, List, [], ◌∷◌, ◌++◌, slice_get, Option, Some}
use Rattle.std.specs.Prelude.{None, if◌then◌else◌}

-- no item is at two indices of a list
abbrev pub AreDifferent : {A : Type 0} → List A → Type 0
AreDifferent xs = (i j : ℕ) (x : _) → slice_get xs i ≡ Some x → slice_get xs j ≡ Some x → i ≡ j

-- whether a list has no item
abbrev pub is_empty : {A : Type 0} → List A → Bool
is_empty [] = true
is_empty (x ∷ xs) = false

-- the greatest of these, and 0 where there is none
abbrev pub greatest : List ℕ → ℕ
greatest [] = 0
greatest (x ∷ xs) = max x (greatest xs)

-- the numbers below this one that pass, rising
unfoldable pub those_below : (ℕ → Bool) → ℕ → List ℕ
those_below test zero = []
those_below test (suc n) = those_below test n ++ (if test n then n ∷ [] else [])

-- the numbers below this one, rising
unfoldable pub numbers_below : ℕ → List ℕ
numbers_below zero = []
numbers_below (suc n) = numbers_below n ++ n ∷ []

-- whether an option has a value that passes
abbrev pub is_some_and : {A : Type 0} → (A → Bool) → Option A → Bool
is_some_and test None = false
is_some_and test (Some x) = test x

-- what a function gives of the value of an option; none where the option has none
abbrev pub then_from : {A B : Type 0} → Option A → (A → Option B) → Option B
then_from None f = None
then_from (Some x) f = f x

-- the number of an option, and 0 for none
abbrev pub or_zero : Option ℕ → ℕ
or_zero None = 0
or_zero (Some n) = n
