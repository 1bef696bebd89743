-- A front is a text of its kind.
use Rattle.std.proofs.Common.{◌≡◌, ℕ, suc, ◌+◌, Bool, true, false, cond, eqb, not, List, [], ◌∷◌, length, take, drop}
use Rattle.std.proofs.Common.{Some, refl, sym, ap, subst, ◌∙◌, arith, inl, inr}
use Rattle.std.specs.List.{list_all, take_while, starts_with}
use Rattle.std.proofs.lemmas.Bool.{eqb-false}
use Rattle.rt_lemmas.proofs.Runs.{run_whole, run_passes, run_from}
use Rattle.rt_lemmas.proofs.Bools.{or_left, or_right, or_cases, and_left, and_right, and_both, true_and_false}
use Rattle.rt_lex.specs.declared.token.Kind.{Kind}
use Rattle.rt_lex.specs.declared.token.Kind.TheVariants as kind
use Rattle.rt_lex.specs.Bytes.{is_hex_digit, is_blank}
use Rattle.rt_ids.specs.Byte.{is_name_byte, is_digit, is_letter}
use Rattle.rt_lex.specs.Spelling.{is_long_sign, is_short_sign}
use Rattle.rt_ids.specs.Word.{is_word, is_identifier}
use Rattle.rt_lex.specs.Front.{Front, skips, makes, comment, front_of, name_front, number_front, sign_front, hex_digits}
use Rattle.rt_lex.specs.Split.{is_run, is_hex, is_number, is_sign, is_whole, has_kind}
use Rattle.rt_lex.proofs.Lexing.{by_test, long_has_two}
use Rattle.rt_lex.proofs.Longest.{none_of}

abbrev HasOwnKind : List ℕ → Front → Type 0
HasOwnKind whole front = (k : Kind) → front.kind ≡ Some k → has_kind k (take front.len whole) ≡ true

some_is : (j k : Kind) → Some j ≡ Some k → j ≡ k
some_is j k e = cc

-- a front that is of its kind at one kind
of_kind : (whole : List ℕ) (len : ℕ) (j : Kind) → has_kind j (take len whole) ≡ true → HasOwnKind whole (makes len j)
of_kind whole len j h k e = subst (λ (i : Kind). has_kind i (take len whole) ≡ true) (some_is j k e) h

name_or_word : (test : Bool) (text : List ℕ) → is_word text ≡ test → is_identifier text ≡ true
    → has_kind (cond test kind.Word kind.Name) text ≡ true
name_or_word true text e h = and_both (is_identifier text) (is_word text) h e
name_or_word false text e h = and_both (is_identifier text) (not (is_word text)) h (rw e refl)

name_kind : (b : ℕ) (text : List ℕ) → is_letter b ≡ true → HasOwnKind (b ∷ text)
    (name_front (take_while is_name_byte (b ∷ text)))
name_kind b text letter =
    let name = take_while is_name_byte (b ∷ text) in
    let e : name ≡ b ∷ take_while is_name_byte text = run_from is_name_byte b text
    (or_left (is_letter b) (is_digit b) letter) in
    let h : is_identifier name ≡ true = subst (λ (t : List ℕ). is_identifier t ≡ true) (sym e)
    (and_both (is_letter b) (list_all is_name_byte (take_while is_name_byte text)) letter
    (run_passes is_name_byte text)) in
    let j = cond (is_word name) kind.Word kind.Name in
    of_kind (b ∷ text) (length name) j (subst (λ (t : List ℕ). has_kind j t ≡ true)
    (sym (run_whole is_name_byte (b ∷ text))) (name_or_word (is_word name) name refl h))

decimal_kind : (b : ℕ) (text : List ℕ) → is_digit b ≡ true → is_number
    (take (length (take_while is_digit (b ∷ text))) (b ∷ text)) ≡ true
decimal_kind b text digit =
    let e = run_whole is_digit (b ∷ text) ∙ run_from is_digit b text digit in
    let h : is_number (b ∷ take_while is_digit text) ≡ true = or_left (is_run is_digit (b ∷ take_while is_digit text)) _
    (and_both (is_digit b) (list_all is_digit (take_while is_digit text)) digit (run_passes is_digit text)) in
    subst (λ (t : List ℕ). is_number t ≡ true) (sym e) h

all_run : (p : ℕ → Bool) (xs : List ℕ) → (length xs ≡ 0 → ⊥) → list_all p xs ≡ true → is_run p xs ≡ true
all_run p [] some h = absurd (some refl)
all_run p (x ∷ xs) some h = h

two_more : (n : ℕ) → 2 + n ≡ suc (suc n)
two_more n = omega arith

hex_kind_at : (b x : ℕ) (rest : List ℕ) (test : Bool) → starts_with eqb (b ∷ x ∷ rest) (48 ∷ 120 ∷ []) ≡ test
    → (length (cond test (take_while is_hex_digit rest) []) ≡ 0 → ⊥)
    → is_number (take (2 + length (cond test (take_while is_hex_digit rest) [])) (b ∷ x ∷ rest)) ≡ true
hex_kind_at b x rest false e some = absurd (some refl)
hex_kind_at b x rest true e some =
    let run = take_while is_hex_digit rest in
    let h : is_number (b ∷ x ∷ run) ≡ true = or_right (is_run is_digit (b ∷ x ∷ run)) _
    (and_both (starts_with eqb (b ∷ x ∷ run) (48 ∷ 120 ∷ [])) (is_run is_hex_digit run) e
    (all_run is_hex_digit run some (run_passes is_hex_digit rest))) in
    let all : take (2 + length run) (b ∷ x ∷ rest) ≡ b ∷ x ∷ run =
    rw (two_more (length run)) (ap (λ (t : List ℕ). b ∷ x ∷ t) (run_whole is_hex_digit rest)) in
    subst (λ (t : List ℕ). is_number t ≡ true) (sym all) h

-- one byte does not begin with 0x
one_is_no_hex : (b : ℕ) → starts_with eqb (b ∷ []) (48 ∷ 120 ∷ []) ≡ true → ⊥
one_is_no_hex b h = true_and_false false (and_right (eqb 48 b) false h) refl

hex_of_one : (b : ℕ) (test : Bool) → starts_with eqb (b ∷ []) (48 ∷ 120 ∷ []) ≡ test
    → (length (cond test (take_while is_hex_digit (drop 2 (b ∷ []))) []) ≡ 0 → ⊥) → ⊥
hex_of_one b true e some = one_is_no_hex b e
hex_of_one b false e some = some refl

hex_kind : (b : ℕ) (text : List ℕ) → (length (hex_digits (b ∷ text)) ≡ 0 → ⊥)
    → is_number (take (2 + length (hex_digits (b ∷ text))) (b ∷ text)) ≡ true
hex_kind b [] some = absurd (hex_of_one b (starts_with eqb (b ∷ []) (48 ∷ 120 ∷ [])) refl some)
hex_kind b (x ∷ rest) some = hex_kind_at b x rest (starts_with eqb (b ∷ x ∷ rest) (48 ∷ 120 ∷ [])) refl some

number_by : (whole : List ℕ) (test : Bool) (digits hex : ℕ) → (test ≡ true → is_number (take digits whole) ≡ true)
    → (test ≡ false → is_number (take hex whole) ≡ true) → is_number (take (cond test digits hex) whole) ≡ true
number_by whole true digits hex h k = h refl
number_by whole false digits hex h k = k refl

number_kind : (b : ℕ) (text : List ℕ) → is_digit b ≡ true → HasOwnKind (b ∷ text)
    (number_front (take_while is_digit (b ∷ text)) (hex_digits (b ∷ text)))
number_kind b text digit =
    let whole = b ∷ text in
    let none = eqb (length (hex_digits whole)) 0 in
    of_kind whole (cond none (length (take_while is_digit whole)) (2 + length (hex_digits whole))) kind.Num
    (number_by whole none (length (take_while is_digit whole)) (2 + length (hex_digits whole))
    (λ e. decimal_kind b text digit) (λ e. hex_kind b text (eqb-false _ 0 e)))

long_kind : (b : ℕ) (text : List ℕ) → is_long_sign (take 2 (b ∷ text)) ≡ true → is_sign (take 2 (b ∷ text)) ≡ true
long_kind b [] h = let two : 1 ≡ 2 = long_has_two (b ∷ []) h in absurd (omega (arith, two))
long_kind b (x ∷ rest) h = h

one_is_none : (b : ℕ) → is_letter b ≡ false → is_digit b ≡ false → is_short_sign b ≡ false → is_whole (b ∷ []) ≡ false
one_is_none b no_letter no_digit no_sign =
    none_of (is_identifier (b ∷ [])) (is_number (b ∷ [])) (is_sign (b ∷ []))
    (λ h. true_and_false (is_letter b) (and_left (is_letter b) true h) no_letter)
    (λ h. elim (or_cases (is_run is_digit (b ∷ [])) (is_hex (b ∷ [])) h) [
      | inl decimal ↦ true_and_false (is_digit b) (and_left (is_digit b) true decimal) no_digit
      | inr hex ↦ one_is_no_hex b (and_left (starts_with eqb (b ∷ []) (48 ∷ 120 ∷ [])) _ hex)
    ])
    (λ h. true_and_false (is_short_sign b) h no_sign)

short_kind : (b : ℕ) (test : Bool) → is_blank b ≡ false → is_letter b ≡ false → is_digit b ≡ false → is_short_sign b
    ≡ test → has_kind (cond test kind.Sign kind.Foreign) (b ∷ []) ≡ true
short_kind b true no_blank no_letter no_digit e = e
short_kind b false no_blank no_letter no_digit e = rw (no_blank, one_is_none b no_letter no_digit e) refl

sign_kind : (b : ℕ) (text : List ℕ) → is_blank b ≡ false → is_letter b ≡ false → is_digit b ≡ false
    → HasOwnKind (b ∷ text) (sign_front b (take 2 (b ∷ text)))
sign_kind b text no_blank no_letter no_digit =
    let whole = b ∷ text in
    let short = cond (is_short_sign b) kind.Sign kind.Foreign in
    by_test (HasOwnKind whole) (is_long_sign (take 2 whole)) (makes 2 kind.Sign) (makes 1 short)
    (λ e. of_kind whole 2 kind.Sign (long_kind b text e))
    (λ e. of_kind whole 1 short (short_kind b (is_short_sign b) no_blank no_letter no_digit refl))

-- the bytes of a front that is a token are a text of its kind
pub front_has_kind : (b : ℕ) (text : List ℕ) → HasOwnKind (b ∷ text) (front_of b (b ∷ text))
front_has_kind b text =
    let whole = b ∷ text in
    by_test (HasOwnKind whole) (is_blank b) (skips 1) _ (λ e k i. absurd cc) (λ no_blank.
    by_test (HasOwnKind whole) (starts_with eqb whole (47 ∷ 47 ∷ [])) (skips (length (comment whole))) _
    (λ e k i. absurd cc) (λ e.
    by_test (HasOwnKind whole) (is_letter b) (name_front (take_while is_name_byte whole)) _ (name_kind b text)
    (λ no_letter.
    by_test (HasOwnKind whole) (is_digit b) (number_front (take_while is_digit whole) (hex_digits whole))
    (sign_front b (take 2 whole))
    (number_kind b text) (sign_kind b text no_blank no_letter))))
