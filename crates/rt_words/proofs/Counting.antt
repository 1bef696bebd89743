-- Counting by tests.
use Rattle.std.proofs.Common.{ℕ, ◌/◌, ◌%◌, ◌==◌, ◌&&◌, Bool, cond, nat_lt}
use Rattle.std.specs.Int.{bit_at}

abbrev pub one_if : Bool → ℕ
one_if b = cond b 1 0

-- 1 where the interrupt stands in the word, at a bit below `upto` that is set
abbrev pub counted : ℕ → ℕ → ℕ → ℕ → ℕ
counted word bits upto irq = one_if ((word == irq / 32) && (nat_lt (irq % 32) upto && (bit_at bits (irq % 32) == 1)))
