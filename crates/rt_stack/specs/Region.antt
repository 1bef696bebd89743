-- A region of memory that a stack lies in. In the architecture (ARMv7-M Architecture Reference Manual, section B1.5)
-- an exception's frame is pushed at the addresses just below those in use, and no register says where the stack ends.
-- Here the words are a list with the last pushed at its end, and they keep within a size. The code holds just the
-- words in use, in a vector that has room for all from the start.
use Rattle.std.specs.Prelude.{ℕ, ◌+◌, ◌-◌, ◌≤◌, List, [], ◌++◌, length, take, drop, replicate}

-- the stack region: the words in use, and how many have room
pub record Region : Type 0 where
  -- the words in use, each below 2 ^ 32, in the order in which they were pushed
  pub words : List ℕ
  -- how many words have room
  pub size : ℕ

-- a region of this size with no words in use
abbrev pub empty : ℕ → Region
empty size = record { words = []; size = size }

-- how many words are in use
abbrev pub used_words : Region → ℕ
used_words r = length r.words

-- so many words more have room in a region
abbrev pub HasRoomFor : Region → ℕ → Type 0
HasRoomFor r n = used_words r + n ≤ r.size

-- the last so many words of a region
abbrev pub top : Region → ℕ → List ℕ
top r n = drop (used_words r - n) r.words

-- all words of a region but the last so many
abbrev pub below : Region → ℕ → List ℕ
below r n = take (used_words r - n) r.words

-- a region with so many words more, each 0
abbrev pub region_after_push : Region → ℕ → Region
region_after_push r n = record r { words = r.words ++ replicate n 0 }

-- a region with so many words less
abbrev pub region_after_pop : Region → ℕ → Region
region_after_pop r n = record r { words = below r n }
