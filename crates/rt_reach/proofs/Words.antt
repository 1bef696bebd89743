-- Words of name bytes, as names and numbers in decimal are, and lines of two of them.
use Rattle.std.proofs.Common.{◌≡◌, ℕ, suc, ◌-◌, ◌==◌, ◌<◌, ◌≤◌, ◌^◌, nat_le, Bool, true, false, not, ◌&&◌}
use Rattle.std.proofs.Common.{if◌then◌else◌, List, [], ◌∷◌, ◌++◌, length, filter, decimal, get_or, Some, None}
use Rattle.std.proofs.Common.{refl, ap, sym, subst, ◌∙◌, arith, length-append, append-nil}
use Rattle.std.specs.List.{AllByRecursion, list_all, slice_split}
use Rattle.std.specs.Str.Parse.{AllDigits, digits_value}
use Rattle.std.proofs.lemmas.Bool.{eqb-true, le-leb, false_from_ne_true, false≢true}
use Rattle.std.proofs.lemmas.Fmt.{decimal_is_IsNumeral, decimal_nonempty, length-decimal-le}
use Rattle.std.proofs.lemmas.Str.Parse.{digit_from_value}
use Rattle.rt_lemmas.proofs.Bools.{and_left, and_right, and_both, or_right}
use Rattle.rt_lemmas.proofs.Membership.{all_weaker}
use Rattle.rt_ids.specs.Byte.{is_digit, is_letter, is_name_byte}
use Rattle.rt_ids.specs.Lists.{is_empty}
use Rattle.rt_ids.specs.Word.{is_identifier}
use Rattle.rt_ids.proofs.Numbers.{all_digits, digit_is}
use Rattle.rt_lines.specs.Numbers.{are_digits, short_number}
use Rattle.rt_lines.specs.Parts.{spaced_words}
use Rattle.rt_lines.proofs.Words.{words_spaced}
use Rattle.rt_code.proofs.Writable.{letter_later}

-- a word of name bytes
abbrev pub IsPlain : List ℕ → Type 0
IsPlain = AllByRecursion (λ b. is_name_byte b ≡ true)

-- it has no byte that is none of a name
pub plain_without : (c : ℕ) → is_name_byte c ≡ false → (w : List ℕ) → IsPlain w
    → AllByRecursion (λ b. (b == c) ≡ false) w
plain_without c none w plain = all_weaker _ _ (λ b is. false_from_ne_true (b == c)
    (λ e. false≢true (sym none ∙ subst (λ n. is_name_byte n ≡ true) (eqb-true b c e) is))) w plain

all_listed : (w : List ℕ) → list_all is_name_byte w ≡ true → IsPlain w
all_listed [] h = tt
all_listed (b ∷ w) h = (and_left _ _ h, all_listed w (and_right _ _ h))

pub name_plain : (text : List ℕ) → is_identifier text ≡ true → IsPlain text
name_plain [] h = tt
name_plain (b ∷ text) h = (letter_later b (and_left _ _ h), all_listed text (and_right _ _ h))

digit_plain : (c : ℕ) → is_digit c ≡ true → is_name_byte c ≡ true
digit_plain c h = or_right (is_letter c) (is_digit c) h

digits_plain : (ds : List ℕ) → AllDigits 10 ds → IsPlain ds
digits_plain [] h = tt
digits_plain (c ∷ ds) h =
    let digit = digit_from_value c h.0 in
    (digit_plain c (digit_is c digit.0 digit.1), digits_plain ds h.1)

pub decimal_plain : (n : ℕ) → n < 2 ^ 64 → IsPlain (decimal n)
decimal_plain n short = let numeral = decimal_is_IsNumeral n short in digits_plain (decimal n) numeral.0.1

pub decimal_length : (n : ℕ) → n < 10 ^ 9 → length (decimal n) ≤ 9
decimal_length n few = length-decimal-le 9 n (omega arith) few (omega arith)

taken : (digits : Bool) (value n : ℕ) → digits ≡ true → value ≡ n → (if digits then Some value else None) ≡ Some n
taken digits value n d v = rw (d, v) refl

-- a number of at most nine digits is read from its decimal text
pub decimal_read : (n : ℕ) → n < 10 ^ 9 → short_number (decimal n) ≡ Some n
decimal_read n few =
    let short : n < 2 ^ 64 = omega arith in
    let numeral = decimal_is_IsNumeral n short in
    let some : 1 ≤ length (decimal n) = decimal_nonempty n short in
    let most : length (decimal n) ≤ 9 = decimal_length n few in
    taken (are_digits 9 (decimal n)) (digits_value 10 (decimal n)) n
    (and_both (nat_le 1 (length (decimal n)) && nat_le (length (decimal n)) 9) (list_all is_digit (decimal n))
    (and_both (nat_le 1 (length (decimal n))) (nat_le (length (decimal n)) 9) (le-leb 1 (length (decimal n)) some)
    (le-leb (length (decimal n)) 9 most)) (all_digits (decimal n) numeral.0.1))
    numeral.1

-- the last byte of a text that ends with other bytes than this one
at_last : (c x : ℕ) (xs : List ℕ) → AllByRecursion (λ b. (b == c) ≡ false) (x ∷ xs)
    → (get_or (x ∷ xs) (length xs) 0 == c) ≡ false
at_last c x [] all = all.0
at_last c x (y ∷ ys) all = at_last c y ys all.1

pub ends_otherwise : (c : ℕ) (front : List ℕ) (y : ℕ) (ys : List ℕ) → AllByRecursion (λ b. (b == c) ≡ false) (y ∷ ys)
    → (get_or (front ++ y ∷ ys) (length (front ++ y ∷ ys) - 1) 0 == c) ≡ false
ends_otherwise c [] y ys all =
    let e : length ys ≡ length (y ∷ ys) - 1 = omega arith in
    subst (λ k. (get_or (y ∷ ys) k 0 == c) ≡ false) e (at_last c y ys all)
ends_otherwise c (x ∷ front) y ys all =
    let e : suc (length (front ++ y ∷ ys) - 1) ≡ length (x ∷ front ++ y ∷ ys) - 1 =
    omega (arith, length-append front (y ∷ ys)) in
    subst (λ k. (get_or (x ∷ front ++ y ∷ ys) k 0 == c) ≡ false) e (ends_otherwise c front y ys all)

-- two words with a space between them
pub two_words : (v w : List ℕ) → IsPlain v → IsPlain w → is_empty v ≡ false → is_empty w ≡ false
    → spaced_words (v ++ 32 ∷ w) ≡ v ∷ w ∷ []
two_words v w front behind some more =
    ap (λ t. spaced_words (v ++ 32 ∷ t)) (sym (append-nil w))
    ∙ ap (λ ws. filter (λ word. not (is_empty word)) ws)
    (words_spaced v (w ∷ []) (plain_without 32 refl v front) (plain_without 32 refl w behind, tt))
    ∙ rw (some, more) refl

-- the parts of a text of two lines and more
pub first_part : (w rest : List ℕ) → AllByRecursion (λ b. (b == 10) ≡ false) w
    → slice_split (λ b. b == 10) (w ++ 10 ∷ rest) ≡ w ∷ slice_split (λ b. b == 10) rest
first_part [] rest h = refl
first_part (b ∷ w) rest h = rw (h.0, first_part w rest h.1) refl
