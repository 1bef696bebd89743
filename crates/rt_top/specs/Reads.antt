-- How much of a source a command reads: all of it, or one byte more than its text may have.
use Rattle.std.specs.Prelude.{◌≡◌, ℕ, ◌+◌, ◌≤◌, ◌⊎◌, List, length, Option}
use Rattle.rt_outside.specs.Bytes.{Past, given_since, HasGiven, IsAtEnd}

-- the text that a source has given since
abbrev pub given_by : {S : Type 0} → (S → Past) → S → S → List ℕ
given_by past old new = given_since (past old) (past new)

-- the source was read to its end and gave no more bytes than the limit, or it gave one byte more
pub record IsReadWithin {S : Type 0} (limit : ℕ) (past : S → Past) (left : S → Option (List ℕ)) (old new : S) : Type 0
  where
    pub gave : HasGiven past left old new
    pub how_much : (IsAtEnd past left new × (length (given_by past old new) ≤ limit))
        ⊎ (length (given_by past old new) ≡ limit + 1)
