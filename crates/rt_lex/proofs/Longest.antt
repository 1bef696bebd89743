-- A front is the longest that fits.
use Rattle.std.proofs.Common.{◌≡◌, ℕ, zero, suc, ◌+◌, ◌<◌, ◌≤◌, Bool, true, false, cond, ◌||◌, eqb, List, [], ◌∷◌}
use Rattle.std.proofs.Common.{length, get_or, take, Some, refl, subst, ◌∙◌, arith, inl, inr}
use Rattle.std.specs.Prelude.{nat_le}
use Rattle.std.specs.List.{list_all, take_while, prefix_len, starts_with}
use Rattle.std.proofs.lemmas.Bool.{eqb-true, leb-true}
use Rattle.std.proofs.lemmas.List.{length-take-le}
use Rattle.std.proofs.lemmas.List.Folds.{length-prefix_len}
use Rattle.rt_lemmas.proofs.Bools.{true_and_false, and_both, or_cases, or_left, and_left, and_right}
use Rattle.rt_lemmas.proofs.Runs.{run_ends}
use Rattle.rt_lemmas.proofs.Texts.{any_text_is}
use Rattle.rt_lex.specs.declared.token.Kind.{Kind}
use Rattle.rt_lex.specs.declared.token.Kind.TheVariants as kind
use Rattle.rt_lex.specs.Bytes.{is_hex_digit, is_blank}
use Rattle.rt_ids.specs.Byte.{is_name_byte, is_digit, is_letter, is_lower, is_upper}
use Rattle.rt_lex.specs.Spelling.{is_long_sign, is_short_sign, long_signs}
use Rattle.rt_lex.specs.Front.{Front, skips, makes, comment, front_of, name_front, number_front, sign_front, hex_digits}
use Rattle.rt_lex.specs.Split.{is_run, is_hex, is_number, is_sign, is_whole}
use Rattle.rt_ids.specs.Word.{is_identifier}
use Rattle.rt_lex.proofs.Lexing.{by_test, long_has_two, front_fits}

-- the first byte of a sign of two bytes is no letter and no digit
abbrev first_is_plain : List ℕ → Type 0
first_is_plain s = (is_letter (get_or s 0 0) ≡ false) × (is_digit (get_or s 0 0) ≡ false)

long_is_plain : (p : List ℕ) → is_long_sign p ≡ true → first_is_plain p
long_is_plain p h = any_text_is first_is_plain p long_signs (
  (refl, refl),
  ((refl, refl), ((refl, refl), ((refl, refl), ((refl, refl), ((refl, refl), ((refl, refl), tt)))))),
) h

no_letter_in : (b : ℕ) → b ≤ 57 → is_letter b ≡ true → ⊥
no_letter_in b low h =
    elim (or_cases (is_lower b || is_upper b) (eqb b 95) h) [
      | inl more ↦ elim (or_cases (is_lower b) (is_upper b) more) [
        | inl lower ↦ omega (arith, low, leb-true 97 b (and_left (nat_le 97 b) _ lower))
        | inr upper ↦ omega (arith, low, leb-true 65 b (and_left (nat_le 65 b) _ upper))
      ]
      | inr line ↦ omega (arith, low, eqb-true b 95 line)
    ]

digit_is_no_letter : (b : ℕ) → is_digit b ≡ true → is_letter b ≡ true → ⊥
digit_is_no_letter b h k = no_letter_in b (leb-true b 57 (and_right (nat_le 48 b) _ h)) k

pub none_of : (a b c : Bool) → (a ≡ true → ⊥) → (b ≡ true → ⊥) → (c ≡ true → ⊥) → (a || b || c) ≡ false
none_of true b c f g h = absurd (f refl)
none_of false true c f g h = absurd (g refl)
none_of false false true f g h = absurd (h refl)
none_of false false false f g h = refl

-- a text that is no name, no number and no sign
record Excludes (p : List ℕ) : Type 0 where
  name : is_identifier p ≡ true → ⊥
  number : is_number p ≡ true → ⊥
  sign : is_sign p ≡ true → ⊥

no_whole : (p : List ℕ) → Excludes p → is_whole p ≡ false
no_whole p e = none_of (is_identifier p) (is_number p) (is_sign p) e.name e.number e.sign

zero_first : (b x : ℕ) (r : List ℕ) → starts_with eqb (b ∷ x ∷ r) (48 ∷ 120 ∷ []) ≡ true → 48 ≡ b
zero_first b x r h = eqb-true 48 b (and_left (eqb 48 b) _ h)

x_second : (b x : ℕ) (r : List ℕ) → starts_with eqb (b ∷ x ∷ r) (48 ∷ 120 ∷ []) ≡ true → 120 ≡ x
x_second b x r h = eqb-true 120 x (and_left (eqb 120 x) _ (and_right (eqb 48 b) _ h))

zero_is_digit : (b : ℕ) → 48 ≡ b → is_digit b ≡ true
zero_is_digit b e = subst (λ (c : ℕ). is_digit c ≡ true) e refl

-- no front of the text of more bytes is whole
abbrev Ends : ℕ → List ℕ → Front → Type 0
Ends b [] front = Unit {0}
Ends b (x ∷ rest) front = (m : ℕ) → m ≤ length rest → front.len < suc (suc m) → Excludes (b ∷ x ∷ take m rest)

name_ends : (b x : ℕ) (r : List ℕ) → is_letter b ≡ true → list_all is_name_byte (b ∷ x ∷ r) ≡ false
    → Excludes (b ∷ x ∷ r)
name_ends b x r letter all =
    record {
      name = λ h. true_and_false (list_all is_name_byte (b ∷ x ∷ r))
          (and_both (is_name_byte b) (list_all is_name_byte (x ∷ r)) (or_left (is_letter b) (is_digit b) letter)
          (and_right (is_letter b) _ h)) all;
      number = λ h. elim (or_cases (is_run is_digit (b ∷ x ∷ r)) (is_hex (b ∷ x ∷ r)) h) [
        | inl decimal ↦ digit_is_no_letter b (and_left (is_digit b) _ decimal) letter
        | inr hex ↦ digit_is_no_letter b
            (zero_is_digit b (zero_first b x r (and_left (starts_with eqb (b ∷ x ∷ r) (48 ∷ 120 ∷ [])) _ hex))) letter
      ];
      sign = λ h. true_and_false (is_letter b) letter (long_is_plain (b ∷ x ∷ r) h).0;
    }

letter_case : (b : ℕ) (text : List ℕ) → is_letter b ≡ true → Ends b text
    (name_front (take_while is_name_byte (b ∷ text)))
letter_case b [] letter = tt
letter_case b (x ∷ rest) letter = λ m h w.
    name_ends b x (take m rest) letter (run_ends is_name_byte (b ∷ x ∷ rest) (suc (suc m))
    (omega (arith, w, length-prefix_len is_name_byte (b ∷ x ∷ rest))) (omega (arith, h)))

-- the length of a number, by whether it begins as a hexadecimal one
abbrev number_len : Bool → List ℕ → ℕ → ℕ
number_len test hex digits = cond (eqb (length (cond test hex [])) 0) digits (2 + length (cond test hex []))

digits_short : (test : Bool) (hex : List ℕ) (digits m : ℕ) → (test ≡ true → digits ≡ 1)
    → number_len test hex digits < suc (suc m) → digits < suc (suc m)
digits_short true hex digits m one h = omega (arith, one refl)
digits_short false hex digits m one h = h

hex_short_by : (none : Bool) (n digits m : ℕ) → eqb n 0 ≡ none → 0 < m → cond none digits (2 + n) < suc (suc m) → n < m
hex_short_by true n digits m e some h = omega (arith, some, eqb-true n 0 e)
hex_short_by false n digits m e some h = omega (arith, h)

hex_short : (test : Bool) (hex : List ℕ) (digits m : ℕ) → test ≡ true → 0 < m → number_len test hex digits < suc (suc m)
    → length hex < m
hex_short true hex digits m e some h = hex_short_by (eqb (length hex) 0) (length hex) digits m refl some h
hex_short false hex digits m e some h = absurd cc

one_digit : (b x : ℕ) (rest : List ℕ) → starts_with eqb (b ∷ x ∷ rest) (48 ∷ 120 ∷ []) ≡ true
    → prefix_len is_digit (b ∷ x ∷ rest) ≡ 1
one_digit b x rest h =
    let at_x : prefix_len is_digit (48 ∷ x ∷ rest) ≡ 1 = subst (λ (c : ℕ). prefix_len is_digit (48 ∷ c ∷ rest) ≡ 1)
    (x_second b x rest h) refl in
    subst (λ (c : ℕ). prefix_len is_digit (c ∷ x ∷ rest) ≡ 1) (zero_first b x rest h) at_x

run_all : (p : ℕ → Bool) (xs : List ℕ) → is_run p xs ≡ true → (list_all p xs ≡ true) × (0 < length xs)
run_all p [] h = absurd cc
run_all p (x ∷ xs) h = (h, omega arith)

digit_case : (b : ℕ) (text : List ℕ) → is_letter b ≡ false → is_digit b ≡ true
    → Ends b text (number_front (take_while is_digit (b ∷ text)) (hex_digits (b ∷ text)))
digit_case b [] no_letter digit = tt
digit_case b (x ∷ rest) no_letter digit = λ m h w.
    let whole = b ∷ x ∷ rest in
    let test = starts_with eqb whole (48 ∷ 120 ∷ []) in
    let len = length-prefix_len is_digit whole in
    record {
      name = λ n. true_and_false (is_letter b) (and_left (is_letter b) _ n) no_letter;
      number = λ n. elim (or_cases (is_run is_digit (b ∷ x ∷ take m rest)) (is_hex (b ∷ x ∷ take m rest)) n) [
        | inl decimal ↦
            let short = digits_short test (take_while is_hex_digit rest) (length (take_while is_digit whole)) m
            (λ e. len ∙ one_digit b x rest e) w in
            true_and_false (list_all is_digit (b ∷ x ∷ take m rest)) decimal
            (run_ends is_digit whole (suc (suc m)) (omega (arith, short, len)) (omega (arith, h)))
        | inr hex ↦
            let run = run_all is_hex_digit (take m rest)
            (and_right (starts_with eqb (b ∷ x ∷ take m rest) (48 ∷ 120 ∷ [])) _ hex) in
            let some : 0 < m = omega (arith, run.1, length-take-le m rest h) in
            let short = hex_short test (take_while is_hex_digit rest) (length (take_while is_digit whole)) m
            (and_left test _ hex) some w in
            true_and_false (list_all is_hex_digit (take m rest)) run.0
            (run_ends is_hex_digit rest m (omega (arith, short, length-prefix_len is_hex_digit rest)) h)
      ];
      sign = λ n. true_and_false (is_digit b) digit (long_is_plain (b ∷ x ∷ take m rest) n).1;
    }

sign_short : (test : Bool) (k : Kind) (m : ℕ) → (cond test (makes 2 kind.Sign) (makes 1 k)).len < suc (suc m) → test
    ≡ true → m ≡ 0 → ⊥
sign_short true k m h e none = omega (arith, h, none)
sign_short false k m h e none = cc

sign_case : (b : ℕ) (text : List ℕ) → is_letter b ≡ false → is_digit b ≡ false
    → Ends b text (sign_front b (take 2 (b ∷ text)))
sign_case b [] no_letter no_digit = tt
sign_case b (x ∷ rest) no_letter no_digit = λ m h w.
    let p = b ∷ x ∷ take m rest in
    record {
      name = λ n. true_and_false (is_letter b) (and_left (is_letter b) _ n) no_letter;
      number = λ n. elim (or_cases (is_run is_digit p) (is_hex p) n) [
        | inl decimal ↦ true_and_false (is_digit b) (and_left (is_digit b) _ decimal) no_digit
        | inr hex ↦ true_and_false (is_digit b)
            (zero_is_digit b (zero_first b x (take m rest) (and_left (starts_with eqb p (48 ∷ 120 ∷ [])) _ hex)))
            no_digit
      ];
      sign = λ n.
          let len : length p ≡ 2 = long_has_two p n in
          let none : m ≡ 0 = omega (arith, len, length-take-le m rest h) in
          let two : is_long_sign (b ∷ x ∷ []) ≡ true = subst (λ (k : ℕ). is_long_sign (b ∷ x ∷ take k rest) ≡ true) none
          n in
          sign_short (is_long_sign (b ∷ x ∷ [])) (cond (is_short_sign b) kind.Sign kind.Foreign) m w two none;
    }

front_ends : (b : ℕ) (text : List ℕ) (k : Kind) → (front_of b (b ∷ text)).kind ≡ Some k
    → Ends b text (front_of b (b ∷ text))
front_ends b text =
    let whole = b ∷ text in
    let P : Front → Type 0 = λ f. (k : Kind) → f.kind ≡ Some k → Ends b text f in
    by_test P (is_blank b) (skips 1) _ (λ e k i. absurd cc) (λ e.
    by_test P (starts_with eqb whole (47 ∷ 47 ∷ [])) (skips (length (comment whole))) _ (λ e k i. absurd cc) (λ e.
    by_test P (is_letter b) (name_front (take_while is_name_byte whole)) _ (λ letter k i. letter_case b text letter)
    (λ no_letter.
    by_test P (is_digit b) (number_front (take_while is_digit whole) (hex_digits whole)) (sign_front b (take 2 whole))
    (λ digit k i. digit_case b text no_letter digit) (λ no_digit k i. sign_case b text no_letter no_digit))))

longest_of : (b : ℕ) (text : List ℕ) (front : Front) → 0 < front.len → Ends b text front → (n : ℕ) → front.len < n
    → n ≤ length (b ∷ text) → is_whole (take n (b ∷ text)) ≡ false
longest_of b [] front some ends n h w = absurd (omega (arith, some, h, w))
longest_of b (x ∷ rest) front some ends zero h w = absurd (omega (arith, h))
longest_of b (x ∷ rest) front some ends (suc zero) h w = absurd (omega (arith, some, h))
longest_of b (x ∷ rest) front some ends (suc (suc m)) h w = no_whole (b ∷ x ∷ take m rest) (ends m (omega (arith, w)) h)

-- more bytes than a front that is a token are no name, no number and no sign
pub front_is_longest : (b : ℕ) (text : List ℕ) (k : Kind) → (front_of b (b ∷ text)).kind ≡ Some k → (n : ℕ)
    → (front_of b (b ∷ text)).len < n → n ≤ length (b ∷ text) → is_whole (take n (b ∷ text)) ≡ false
front_is_longest b text k e = longest_of b text (front_of b (b ∷ text)) (front_fits b text).some (front_ends b text k e)
