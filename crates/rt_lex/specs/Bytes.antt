-- Classes of bytes of an application text.
use Rattle.std.specs.Prelude.{ℕ, ◌-◌, Bool, ◌&&◌, ◌||◌, nat_le, ◌==◌, if◌then◌else◌}
use Rattle.rt_ids.specs.Byte.{is_digit, is_lower}

-- space, tab, line feed, carriage return
abbrev pub is_blank : ℕ → Bool
is_blank b = (b == 32) || (b == 9) || (b == 10) || (b == 13)

-- a digit, or a letter from a to f of either case
abbrev pub is_hex_digit : ℕ → Bool
is_hex_digit b = is_digit b || (nat_le 97 b && nat_le b 102) || (nat_le 65 b && nat_le b 70)

-- the value of a digit of either case
abbrev pub digit_value : ℕ → ℕ
digit_value b = if is_digit b then b - 48 else if is_lower b then b - 87 else b - 55
