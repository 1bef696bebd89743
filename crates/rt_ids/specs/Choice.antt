-- The best of those in a list that pass a test. Both the interrupt controller (ARMv7-M Architecture Reference
-- Manual, section B1.5.4) and Baker's rule (Stack-Based Scheduling of Realtime Processes, 1991) choose so.
use Rattle.std.specs.Prelude.{◌≡◌, ℕ, Bool, true, false, Option, Some, None, List, [], ◌∷◌, slice_get, if◌then◌else◌}
use Rattle.std.specs.List.{AllByRecursion}

-- the better of an item and of the one that was chosen among those after it, where one was
abbrev pub better_of : {A : Type 0} → (A → A → Bool) → A → Option A → Option A
better_of beats x None = Some x
better_of beats x (Some y) = if beats x y then Some x else Some y

-- the best of those that pass: it beats what is chosen among those after it, and none before it beats it
abbrev pub best : {A : Type 0} → (A → Bool) → (A → A → Bool) → List A → Option A
best passes beats [] = None
best passes beats (x ∷ xs) = if passes x then better_of beats x (best passes beats xs) else best passes beats xs

-- an item is at some index of a list
abbrev pub IsIn : {A : Type 0} → List A → A → Type 0
IsIn xs x = (i : ℕ) × (slice_get xs i ≡ Some x)

-- A total preorder that a test decides: of two, the one that `beats` the other is no later than it; where it does not
-- beat the other, the other is no later than it.
pub record IsOrder {A : Type 0} (beats : A → A → Bool) (IsNoLater : A → A → Type 0) : Type 0 where
  pub reflexive : (x : A) → IsNoLater x x
  pub transitive : (x y z : A) → IsNoLater x y → IsNoLater y z → IsNoLater x z
  pub won : (x y : A) → beats x y ≡ true → IsNoLater x y
  pub lost : (x y : A) → beats x y ≡ false → IsNoLater y x

-- none passes, or the chosen one is in the list, passes, and is no later than any other that passes
abbrev pub IsBest : {A : Type 0} → (A → Bool) → (A → A → Type 0) → List A → Option A → Type 0
IsBest passes IsNoLater xs None = AllByRecursion (λ x. passes x ≡ false) xs
IsBest passes IsNoLater xs (Some best) =
    IsIn xs best × (passes best ≡ true) × AllByRecursion (λ x. passes x ≡ true → IsNoLater best x) xs
