-- The pending words, as one thread sees them: what a call answers, and what it leaves.
use Rattle.std.specs.Prelude.{◌≡◌, ℕ, ◌/◌, ◌%◌, ◌^◌, List, slice_index, slice_set, bit_or}
use Rattle.rt_ids.specs.Arrivals.{bit_of}
use Rattle.rt_words.specs.declared.call.Pended.TheVariants.{Raised, Merged}
use Rattle.rt_words.specs.declared.call.Call.{Call}
use Rattle.rt_words.specs.declared.call.Call.TheVariants.{Pend, Latch}

-- a bit of the row: 1 where its interrupt is pending, else 0
abbrev pub pending_bit : List ℕ → ℕ → ℕ
pending_bit words bit = bit_of words bit

-- the interrupt of this bit is pending
abbrev pub IsPending : List ℕ → ℕ → Type 0
IsPending words bit = pending_bit words bit ≡ 1

-- the call got the answer that these words give
abbrev pub IsAnswered : List ℕ → Call → Type 0
IsAnswered words (Pend bit Raised) = pending_bit words bit ≡ 0
IsAnswered words (Pend bit Merged) = pending_bit words bit ≡ 1
IsAnswered words (Latch k word) = word ≡ slice_index words k

-- the words after the call: a pend sets the bit, a latch sets the word to 0
abbrev pub after : List ℕ → Call → List ℕ
after words (Pend bit answer) = slice_set words (bit / 32) (bit_or (slice_index words (bit / 32)) (2 ^ (bit % 32)))
after words (Latch k word) = slice_set words k 0
