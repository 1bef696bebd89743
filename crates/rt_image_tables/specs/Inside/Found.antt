-- Tables by number.
use Rattle.std.specs.Prelude.{◌≡◌, ℕ, ◌<◌, List, slice_get, Some}

-- a list has the answer for each number below a bound
abbrev pub IsTable : {A : Type 0} → (ℕ → A) → ℕ → List A → Type 0
IsTable answer count items = (k : ℕ) → k < count → slice_get items k ≡ Some (answer k)
