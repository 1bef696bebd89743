-- The number that a token spells.
use Rattle.std.specs.Prelude.{ℕ, ◌+◌, ◌*◌, ◌^◌, nat_lt, nat_eq, codes, List, drop, fold, Option, Some, None}
use Rattle.std.specs.Prelude.{if◌then◌else◌}
use Rattle.std.specs.List.{starts_with}
use Rattle.rt_lex.specs.Bytes.{digit_value}

-- the number that digits spell, the first the highest
abbrev pub digits_value : ℕ → List ℕ → ℕ
digits_value base digits = fold (λ n b. n * base + digit_value b) 0 digits

-- the number that a token's bytes spell: hexadecimal after 0x, else decimal
abbrev pub number_value : List ℕ → ℕ
number_value text = if starts_with nat_eq text (codes "0x") then digits_value 16 (drop 2 text) else digits_value 10 text

-- a number where it is of 32 bits
abbrev pub in_32_bits : ℕ → Option ℕ
in_32_bits n = if nat_lt n (2 ^ 32) then Some n else None
