-- Bytes that come from a source and go to a sink. Each object tells what has passed: a source what its reads have
-- given, a sink what its writes have taken. That is the past alone. A source in memory tells what it has left too; a
-- file does not, because nobody knows what later reads will give.
use Rattle.std.specs.Prelude.{ℕ, ◌≡◌, ◌<◌, ◌≤◌, ◌&&◌, nat_lt, Bool, true, false, List, [], ◌++◌, length, take, drop}
use Rattle.std.specs.Prelude.{Option, Some, None}
use Rattle.rt_ids.specs.Lists.{is_empty}

-- what the reads of a source have given so far, and whether the last of them told that this is the end
pub record Past : Type 0 where
  pub bytes : List ℕ
  pub at_end : Bool

-- no read has been
abbrev pub no_past : Past
no_past = record { bytes = []; at_end = false }

-- Likewise after one more read, which gave this piece to a buffer with so much room. None for a buffer with room is the
-- end.
abbrev pub after_read : Past → List ℕ → ℕ → Past
after_read past piece room = record {
  bytes = past.bytes ++ piece;
  at_end = is_empty piece && nat_lt 0 room;
}

-- the bytes that were given since
abbrev pub given_since : Past → Past → List ℕ
given_since before after = drop (length before.bytes) after.bytes

-- a read moved the first n bytes of what was left into the buffer's front; none in a buffer with room is the end
pub record MovesTold (before after buffer : List ℕ) (n : ℕ) : Type 0 where
  pub moved : before ≡ take n buffer ++ after
  pub end : n ≡ 0 → 0 < length buffer → before ≡ []

-- a read moved n bytes into the buffer's front, as far as what is left is told
abbrev pub Moves : Option (List ℕ) → Option (List ℕ) → List ℕ → ℕ → Type 0
Moves None None buffer n = Unit {0}
Moves (Some before) (Some after) buffer n = MovesTold before after buffer n
Moves None (Some after) buffer n = ⊥
Moves (Some before) None buffer n = ⊥

-- from what was left to what is left, these bytes went, as far as that is told
abbrev pub Gave : Option (List ℕ) → Option (List ℕ) → List ℕ → Type 0
Gave None None bytes = Unit {0}
Gave (Some before) (Some after) bytes = before ≡ bytes ++ after
Gave None (Some after) bytes = ⊥
Gave (Some before) None bytes = ⊥

-- nothing is left, where that is told
abbrev pub IsUsedUp : Option (List ℕ) → Type 0
IsUsedUp None = Unit {0}
IsUsedUp (Some left) = left ≡ []

-- A source has given bytes since, or none, and took back nothing; what it tells to be left has lost just these.
pub record HasGiven {S : Type 0} (past : S → Past) (left : S → Option (List ℕ)) (old new : S) : Type 0 where
  pub grew : (past new).bytes ≡ (past old).bytes ++ given_since (past old) (past new)
  pub went : Gave (left old) (left new) (given_since (past old) (past new))

-- a source was read to its end
pub record IsAtEnd {S : Type 0} (past : S → Past) (left : S → Option (List ℕ)) (source : S) : Type 0 where
  pub told : (past source).at_end ≡ true
  pub none_left : IsUsedUp (left source)

-- what was taken grew by these bytes
abbrev pub Took : List ℕ → List ℕ → List ℕ → Type 0
Took before after bytes = after ≡ before ++ bytes

-- what was taken grew by these bytes, and perhaps by more
abbrev pub TookAtLeast : List ℕ → List ℕ → List ℕ → Type 0
TookAtLeast before after bytes = (more : List ℕ) × Took before after (bytes ++ more)

-- these bytes begin with those, and go on
abbrev pub IsProperPrefix : List ℕ → List ℕ → Type 0
IsProperPrefix front bytes = (rest : List ℕ) × (1 ≤ length rest) × (front ++ rest ≡ bytes)

-- what was taken grew by a beginning of these bytes, not by all of them
abbrev pub TookPrefix : List ℕ → List ℕ → List ℕ → Type 0
TookPrefix before after bytes = (front : List ℕ) × IsProperPrefix front bytes × Took before after front
