-- Sums and shifts of words with their flags: AddWithCarry, LSL_C and LSR_C of the pseudocode in the ARMv7-M
-- Architecture Reference Manual. There words are strings of bits; here they are numbers below 2^32.
use Rattle.std.specs.Prelude.{ℕ, ◌+◌, ◌-◌, ◌*◌, ◌/◌, ◌%◌, ◌^◌, ◌==◌, ◌&&◌, Bool, not, nat_le, if◌then◌else◌}

-- a word with the carry and the overflow that come with it
pub record Sum : Type 0 where
  pub value : ℕ
  pub carry : Bool
  pub overflow : Bool

-- the bit 31 of a word, which is its sign
abbrev pub is_negative : ℕ → Bool
is_negative x = nat_le (2 ^ 31) x

-- all bits turned
abbrev pub complement : ℕ → ℕ
complement x = 2 ^ 32 - 1 - x

abbrev pub differ : Bool → Bool → Bool
differ a b = if a then not b else b

-- AddWithCarry: the carry is that of the numbers without signs; a sum overflows where both have one sign and it has the
-- other
abbrev pub add_with_carry : ℕ → ℕ → Bool → Sum
add_with_carry x y carry =
    let sum = x + y + (if carry then 1 else 0) in
    let value = sum % 2 ^ 32 in
    record {
      value = value;
      carry = nat_le (2 ^ 32) sum;
      overflow = differ (is_negative x) (is_negative value) && differ (is_negative y) (is_negative value);
    }

-- what a shift gives: the word and the carry, which stays as it was where the amount is 0
pub record Shifted : Type 0 where
  pub value : ℕ
  pub carry : Bool

-- LSL_C: the carry is the last bit that was shifted out
abbrev pub shifted_left : ℕ → ℕ → Bool → Shifted
shifted_left x amount carry = record {
  value = x * 2 ^ amount % 2 ^ 32;
  carry = if amount == 0 then carry else (x * 2 ^ amount / 2 ^ 32 % 2 == 1);
}

-- LSR_C
abbrev pub shifted_right : ℕ → ℕ → Bool → Shifted
shifted_right x amount carry = record {
  value = x / 2 ^ amount;
  carry = if amount == 0 then carry else (x / 2 ^ (amount - 1) % 2 == 1);
}
