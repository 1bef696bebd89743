-- The value of digits, one digit at a time.
use Rattle.std.proofs.Common.{◌≡◌, ℕ, ◌+◌, ◌*◌, ◌^◌, ◌<◌, ◌≤◌, List, [], ◌∷◌, length, get_or, drop, None, Some, refl}
use Rattle.std.proofs.Common.{sym, ap, ◌∙◌, arith}
use Rattle.std.specs.Prelude.{fold}
use Rattle.std.proofs.lemmas.Bool.{le-ltb, lt-ltb}
use Rattle.std.proofs.lemmas.List.{at_drop_more, at_drop_all}
use Rattle.rt_lex.specs.Bytes.{digit_value}
use Rattle.rt_lex.specs.Number.{in_32_bits}

-- the value of digits after others of this value
abbrev pub value_from : ℕ → ℕ → List ℕ → ℕ
value_from base value digits = fold (λ n b. n * base + digit_value b) value digits

grows : (base value : ℕ) → 0 < base → value ≤ value * base
grows base value h = grind arith

-- it is not below the value so far
value_grows : (base value : ℕ) (digits : List ℕ) → 0 < base → value ≤ value_from base value digits
value_grows base value [] h = omega arith
value_grows base value (b ∷ digits) h = omega (
  arith,
  grows base value h,
  value_grows base (value * base + digit_value b) digits h,
)

none_above : (n : ℕ) → 2 ^ 32 ≤ n → in_32_bits n ≡ None
none_above n h = rw (le-ltb n (2 ^ 32) h) refl

some_below : (n : ℕ) → n < 2 ^ 32 → in_32_bits n ≡ Some n
some_below n h = rw (lt-ltb n (2 ^ 32) h) refl

-- the digit at i is the next
next_digit : (base value : ℕ) (digits : List ℕ) (i : ℕ) → i < length digits → value_from base value (drop i digits)
    ≡ value_from base (value * base + digit_value (get_or digits i 0)) (drop (i + 1) digits)
next_digit base value digits i h = at_drop_more (value_from base value) digits i 0 h

-- the value so far with the next digit passes 32 bits, so that of all digits does
pub passes : (base value all : ℕ) (digits : List ℕ) (i : ℕ) → 0 < base → i < length digits → 2 ^ 32 ≤ value * base
    + digit_value (get_or digits i 0) → value_from base value (drop i digits) ≡ all → in_32_bits all ≡ None
passes base value all digits i some h over so_far =
    none_above all (omega (
      arith,
      over,
      sym so_far,
      next_digit base value digits i h,
      value_grows base (value * base + digit_value (get_or digits i 0)) (drop (i + 1) digits) some,
    ))

pub is_value : (base value all : ℕ) (digits : List ℕ) (i : ℕ) → value < 2 ^ 32 → length digits ≤ i
    → value_from base value (drop i digits) ≡ all → Some value ≡ in_32_bits all
is_value base value all digits i low h so_far =
    let e : value ≡ all = sym (at_drop_all (value_from base value) digits i h) ∙ so_far in
    sym (some_below value low) ∙ ap (in_32_bits) e
