-- Numbers that stop at the greatest one of 32 bits.
use Rattle.std.specs.Prelude.{ℕ, ◌-◌, ◌^◌, min}

-- a number, or the greatest one of 32 bits
abbrev pub saturated_number : ℕ → ℕ
saturated_number n = min n (2 ^ 32 - 1)
