-- Which lines of a text are out, where they go out as they end.
use Rattle.std.specs.Prelude.{◌≡◌, ℕ, List, [], ◌∷◌, ◌++◌, length}
use Rattle.rt_lines.specs.Parts.{parts}

-- no line feed is in it
abbrev pub IsUnended : List ℕ → Type 0
IsUnended bytes = parts 10 bytes ≡ bytes ∷ []

-- of a text so many lines are out, and this is left of it
pub record LeavesOf (came : List (List ℕ) → Type 0) (text left : List ℕ) (count : ℕ) : Type 0 where
  pub before : List (List ℕ)
  pub splits : parts 10 text ≡ before ++ parts 10 left
  pub number_is : count ≡ length before
  pub are_out : came before

-- of a text the lines that ended are out, so many, and the beginning of the last is held
pub record HoldsLast (came : List (List ℕ) → Type 0) (text held : List ℕ) (count : ℕ) : Type 0 where
  pub leaves : LeavesOf came text held count
  pub unended : IsUnended held
