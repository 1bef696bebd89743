-- Where the interrupts of a core stand in a row of words. Bit b of a row is bit b mod 32 of word b / 32, and a core has
-- 16 words, so 512 bits.
use Rattle.std.specs.Prelude.{ℕ, ◌+◌, ◌*◌}

-- the bit of an interrupt of a core
abbrev pub bit_in_row : ℕ → ℕ → ℕ
bit_in_row core irq = 512 * core + irq

-- the number that a word of a core has in the row
abbrev pub word_in_row : ℕ → ℕ → ℕ
word_in_row core k = 16 * core + k
