-- Counts of faults. An object that reaches outside the program counts how often that failed. A body that gives up
-- by itself cannot raise the count of an object that it was handed, so a contract that ties an error to a rise of
-- that count refuses it.
use Rattle.std.specs.Prelude.{ℕ, ◌≡◌, ◌-◌, ◌^◌, ◌<◌, ◌≤◌, ◌⊎◌, Result, IsErr}

-- the count is greater than before, or stays at the end of its type, 64 bits
abbrev pub Rose : ℕ → ℕ → Type 0
Rose before after = (before < after) ⊎ (after ≡ 2 ^ 64 - 1)

-- the count never falls, and an error comes only where it rose
pub record HasCause {T E : Type 0} (before after : ℕ) (result : Result T E) : Type 0 where
  pub later : before ≤ after
  pub failed : IsErr result → Rose before after
