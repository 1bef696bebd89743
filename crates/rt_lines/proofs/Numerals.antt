-- A number's decimal text spells it, and no other text does.
use Rattle.std.proofs.Common.{◌≡◌, ◌==◌, ◌<◌, ◌≤◌, ◌^◌, ℕ, zero, suc, true, not, nat_le, List}
use Rattle.std.proofs.Common.{length, get_or, decimal, Some, Ok, refl, ap, sym, ◌∙◌, arith}
use Rattle.std.specs.List.{list_all}
use Rattle.std.specs.Str.Parse.{digits_value}
use Rattle.std.proofs.lemmas.Bool.{ne_eqb, le-leb, leb-true, lt-ltb}
use Rattle.std.proofs.lemmas.Bool.Decides.{nat_tests}
use Rattle.std.proofs.lemmas.Fmt.{decimal_is_IsNumeral, decimal_digit, decimal_nonempty, first_decimal}
use Rattle.std.proofs.lemmas.Fmt.{decimal-digits_value, length-decimal-le}
use Rattle.std.proofs.lemmas.Str.Parse.{IsDigitsTest, IsNumeralModel, numerals_by_value}
use Rattle.rt_lemmas.proofs.Bools.{and_both, and_parts, or_left}
use Rattle.rt_ids.specs.Byte.{is_digit}
use Rattle.rt_lines.specs.Numbers.{has_no_leading_zero, number_below}
use Rattle.rt_lines.specs.Operand.{number_at}

abbrev AreDigits : List ℕ → Type 0
AreDigits word = list_all is_digit word ≡ true

tells_digits : IsDigitsTest AreDigits
tells_digits = record {
  empty = refl;
  parts = λ b bs h. let both = and_parts (is_digit b) (list_all is_digit bs) h in
      let range = and_parts (nat_le 48 b) (nat_le b 57) both.0 in
      ((leb-true 48 b range.0, leb-true b 57 range.1), both.1);
  more = λ b bs range h. and_both (is_digit b) (list_all is_digit bs)
      (and_both (nat_le 48 b) (nat_le b 57) (le-leb 48 b range.0) (le-leb b 57 range.1)) h;
}

numerals : IsNumeralModel AreDigits (digits_value 10)
numerals = numerals_by_value AreDigits tells_digits

no_zero_first : (n : ℕ) → n < 2 ^ 64 → has_no_leading_zero (decimal n) ≡ true
no_zero_first zero short = rw (decimal_digit 0 (omega arith)) refl
no_zero_first (suc n) short =
    let first : 48 < get_or (decimal (suc n)) 0 0 = first_decimal (suc n) (omega arith) short in
    or_left (not (get_or (decimal (suc n)) 0 0 == 48)) (length (decimal (suc n)) == 1)
    (ap not (ne_eqb (get_or (decimal (suc n)) 0 0) 48 (λ e. omega (arith, first, e))))

pub number_spelled : (bound n : ℕ) → n < bound → bound ≤ 2 ^ 32 → number_below bound (decimal n) ≡ Some n
number_spelled bound n below few =
    let short : n < 2 ^ 64 = omega arith in
    let numeral = decimal_is_IsNumeral n short in
    let some = le-leb 1 (length (decimal n)) (decimal_nonempty n short) in
    let most = le-leb (length (decimal n)) 10 (length-decimal-le 10 n (omega arith) (omega arith) short) in
    rw (numeral.1, some, most, numerals.from (decimal n) numeral.0.1, no_zero_first n short, lt-ltb n bound below) refl

pub number_read : (bound n : ℕ) → n < bound → bound ≤ 2 ^ 32 → number_at bound (decimal n) ≡ Ok n
number_read bound n below few = rw (number_spelled bound n below few) refl

pub number_spelling : (bound n : ℕ) (word : List ℕ) → bound ≤ 2 ^ 32 → number_below bound word ≡ Some n
    → (word ≡ decimal n) × (n < bound)
number_spelling bound n word few is =
    let same : digits_value 10 word ≡ n = grind (arith, nat_tests) in
    let below : n < bound = grind (arith, nat_tests) in
    let all : list_all is_digit word ≡ true = grind (arith, nat_tests) in
    let some : 1 ≤ length word = grind (arith, nat_tests) in
    let zero : get_or word 0 0 ≡ 48 → length word ≡ 1 = λ e. grind (arith, nat_tests) in
    (sym (decimal-digits_value numerals word all some zero (omega arith)) ∙ ap decimal same, below)
