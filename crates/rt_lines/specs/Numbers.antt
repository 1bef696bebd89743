-- The numbers that words spell in decimal.
use Rattle.std.specs.Prelude.{ℕ, ◌<◌, ◌^◌, Bool, ◌&&◌, ◌||◌, not, ◌==◌, nat_le, nat_lt, List, length, slice_index}
use Rattle.std.specs.Prelude.{Option, Some}
use Rattle.std.specs.Prelude.{None, if◌then◌else◌}
use Rattle.std.specs.List.{list_all}
use Rattle.std.specs.Str.Parse.{digits_value}
use Rattle.rt_ids.specs.Byte.{is_digit}

-- digits, at least one and at most so many
abbrev pub are_digits : ℕ → List ℕ → Bool
are_digits most word = nat_le 1 (length word) && nat_le (length word) most && list_all is_digit word

-- the first digit is not 0, or there is no other
abbrev pub has_no_leading_zero : List ℕ → Bool
has_no_leading_zero word = not (slice_index word 0 == 48) || (length word == 1)

-- a number of one to nine digits, which may begin with 0
abbrev pub short_number : List ℕ → Option ℕ
short_number word = if are_digits 9 word then Some (digits_value 10 word) else None

-- A number below this bound, without a leading zero. The bound is 2^32 at most, so ten digits are enough.
abbrev pub number_below : ℕ → List ℕ → Option ℕ
number_below bound word =
    if are_digits 10 word && has_no_leading_zero word && nat_lt (digits_value 10 word) bound
    then Some (digits_value 10 word) else None

-- a number of 32 bits
abbrev pub Is32Bits : ℕ → Type 0
Is32Bits n = n < 2 ^ 32
