-- The tokens that a text begins with: names, numbers, words and signs.
use Rattle.std.proofs.Common.{◌≡◌, ℕ, ◌+◌, ◌*◌, ◌^◌, ◌<◌, ◌≤◌, Bool, true, false, cond, eqb, ◌||◌, ◌&&◌, List, [], ◌∷◌}
use Rattle.std.proofs.Common.{◌++◌, length, take, drop, Option, None, refl, sym, ap, subst, ◌∙◌, arith, append-nil, inl}
use Rattle.std.proofs.Common.{inr}
use Rattle.std.specs.Prelude.{◌-◌, decimal, fold, nat_lt, nat_le}
use Rattle.std.specs.List.{list_all, take_while, prefix_len, starts_with}
use Rattle.std.proofs.Math.Seq.{take-append_seam}
use Rattle.std.proofs.lemmas.Bool.{cond-true, cond-false, eqb-true, leb-true, ne_eqb, lt-ltb, le-ltb, le-leb}
use Rattle.std.proofs.lemmas.Fmt.{decimal_is_IsNumeral}
use Rattle.std.proofs.lemmas.Str.{digit_value_digit}
use Rattle.std.proofs.lemmas.Str.Parse.{digit_from_value}
use Rattle.std.specs.Str.Parse.{AllDigits, digits_value, digits_value_after}
use Rattle.std.specs.Char as char
use Rattle.rt_lemmas.proofs.Lists.{drop-append}
use Rattle.rt_lemmas.proofs.Texts.{same_text}
use Rattle.rt_lemmas.proofs.Runs.{prefix_at, run_before}
use Rattle.rt_lemmas.proofs.Bools.{right_of_none, or_cases, and_left, and_right, or_left}
use Rattle.rt_ids.specs.declared.limits.TheConstants.{NAME_BYTES}
use Rattle.rt_ast.specs.declared.ident.Ident.{Ident}
use Rattle.rt_ast.specs.declared.ident.Number.{Number}
use Rattle.rt_ast.specs.PrintableBody.{IsPrintableName}
use Rattle.rt_ids.specs.Word.{is_word, is_identifier}
use Rattle.rt_lex.specs.Number.{number_value}
use Rattle.rt_ids.specs.declared.limit.Limit.{Limit}
use Rattle.rt_lex.specs.declared.token.Kind.{Kind}
use Rattle.rt_lex.specs.declared.token.Kind.TheVariants as kind
use Rattle.rt_lex.specs.Tokens.{tokens_at, with_front}
use Rattle.rt_lex.specs.Bytes.{is_blank, digit_value}
use Rattle.rt_ids.specs.Byte.{is_digit, is_letter, is_lower, is_upper, is_name_byte}
use Rattle.rt_ids.proofs.Numbers.{all_digits}
use Rattle.rt_lex.specs.Front.{Front, skips, makes, front_of, name_front, number_front, sign_front, hex_digits, comment}
use Rattle.rt_lex.proofs.Lexing.{takes}
use Rattle.rt_grammar.specs.Tokens.{free, word_of, sign_of, name_of, ident_of, number_of_token, name_limit}
use Rattle.rt_grammar.specs.Tokens.{number_limit}
use Rattle.rt_grammar.specs.Tokens.{limited_word, limited_sign, limited_name, this_name, limited_number}
use Rattle.rt_print.proofs.Reading.{Reads, Any, read_token}

-- a text begins with this token where this follows it
abbrev pub IsFront : List ℕ → Kind → List ℕ → Type 0
IsFront [] k Y = ⊥
IsFront (b ∷ text) k Y = front_of b (b ∷ (text ++ Y)) ≡ makes (length (b ∷ text)) k

front_tokens : (front : Front) (n at : ℕ) (k : Kind) (own whole Y : List ℕ) → front ≡ makes n k → take n whole ≡ own
    → drop n whole ≡ Y
    → with_front front.kind at (take front.len whole) (tokens_at (at + front.len) (drop front.len whole))
    ≡ record { at = at; kind = k; text = own } ∷ tokens_at (at + n) Y
front_tokens front n at k own whole Y e f g = rw (e, f, g) refl

pub token_first : (text : List ℕ) (k : Kind) (Y : List ℕ) (at : ℕ) → IsFront text k Y → tokens_at at (text ++ Y)
    ≡ record { at = at; kind = k; text = text } ∷ tokens_at (at + length text) Y
token_first [] k Y at h = absurd h
token_first (b ∷ text) k Y at h =
    (takes at b (text ++ Y)).found
    ∙ front_tokens (front_of b (b ∷ (text ++ Y))) (length (b ∷ text)) at k (b ∷ text) (b ∷ (text ++ Y)) Y h
    (take-append_seam (b ∷ text) Y) (drop-append (b ∷ text) Y)

pub read_word : (text : List ℕ) (what : Option Limit) (Y : List ℕ) → what ≡ None → IsFront text kind.Word Y
    → Reads (limited_word text what) Any (text ++ Y) Y
read_word text what Y free h at =
    read_token (word_of text) (λ x. what) Any (text ++ Y) Y at (at + length text)
    (record { at = at; kind = kind.Word; text = text }) at (rw (same_text text) refl) free tt
    (token_first text kind.Word Y at h)

pub read_sign : (text : List ℕ) (what : Option Limit) (Y : List ℕ) → what ≡ None → IsFront text kind.Sign Y
    → Reads (limited_sign text what) Any (text ++ Y) Y
read_sign text what Y free h at =
    read_token (sign_of text) (λ x. what) Any (text ++ Y) Y at (at + length text)
    (record { at = at; kind = kind.Sign; text = text }) at (rw (same_text text) refl) free tt
    (token_first text kind.Sign Y at h)

pub read_this_name : (text Y : List ℕ) → IsFront text kind.Name Y → Reads (this_name text) Any (text ++ Y) Y
read_this_name text Y h at =
    read_token (name_of text) (λ x. free) Any (text ++ Y) Y at (at + length text)
    (record { at = at; kind = kind.Name; text = text }) at (rw (same_text text) refl) refl tt
    (token_first text kind.Name Y at h)

-- a text at whose start no name and no number goes on
abbrev pub Stops : List ℕ → Type 0
Stops [] = Unit {0}
Stops (b ∷ Y) = is_name_byte b ≡ false

stops_names : (Y : List ℕ) → Stops Y → prefix_len is_name_byte Y ≡ 0
stops_names [] stop = refl
stops_names (b ∷ Y) stop = prefix_at is_name_byte Y (is_name_byte b) stop

stops_digits : (Y : List ℕ) → Stops Y → prefix_len is_digit Y ≡ 0
stops_digits [] stop = refl
stops_digits (b ∷ Y) stop = prefix_at is_digit Y (is_digit b) (right_of_none (is_letter b) (is_digit b) stop)

-- a byte that is above the blanks and the slash
is_no_blank : (b : ℕ) → 47 < b → is_blank b ≡ false
is_no_blank b h = rw (
  ne_eqb b 32 (λ e. omega (arith, h, e)),
  ne_eqb b 9 (λ e. omega (arith, h, e)),
  ne_eqb b 10 (λ e. omega (arith, h, e)),
  ne_eqb b 13 (λ e. omega (arith, h, e)),
) refl

is_no_comment : (b : ℕ) (text : List ℕ) → 47 < b → starts_with eqb (b ∷ text) (47 ∷ 47 ∷ []) ≡ false
is_no_comment b [] h = rw (ne_eqb 47 b (λ e. omega (arith, h, e))) refl
is_no_comment b (c ∷ text) h = rw (ne_eqb 47 b (λ e. omega (arith, h, e))) refl

letter_high : (b : ℕ) → is_letter b ≡ true → 57 < b
letter_high b h =
    elim (or_cases (is_lower b || is_upper b) (eqb b 95) h) [
      | inl more ↦ elim (or_cases (is_lower b) (is_upper b) more) [
        | inl lower ↦ omega (arith, leb-true 97 b (and_left (nat_le 97 b) _ lower))
        | inr upper ↦ omega (arith, leb-true 65 b (and_left (nat_le 65 b) _ upper))
      ]
      | inr score ↦ omega (arith, eqb-true b 95 score)
    ]

no_letter : (b : ℕ) → b ≤ 57 → (test : Bool) → is_letter b ≡ test → is_letter b ≡ false
no_letter b low true e = absurd (omega (arith, letter_high b e, low))
no_letter b low false e = e

front_of_letter : (b : ℕ) (X : List ℕ) → is_letter b ≡ true → front_of b (b ∷ X)
    ≡ name_front (take_while is_name_byte (b ∷ X))
front_of_letter b X letter =
    let high = letter_high b letter in
    cond-false (is_blank b) (skips 1) _ (is_no_blank b (omega (arith, high)))
    ∙ cond-false (starts_with eqb (b ∷ X) (47 ∷ 47 ∷ [])) (skips (length (comment (b ∷ X)))) _
    (is_no_comment b X (omega (arith, high)))
    ∙ cond-true (is_letter b) (name_front (take_while is_name_byte (b ∷ X))) _ letter

front_of_digit : (b : ℕ) (X : List ℕ) → 47 < b → b ≤ 57 → is_digit b ≡ true → front_of b (b ∷ X)
    ≡ number_front (take_while is_digit (b ∷ X)) (hex_digits (b ∷ X))
front_of_digit b X high low digit =
    cond-false (is_blank b) (skips 1) _ (is_no_blank b high)
    ∙ cond-false (starts_with eqb (b ∷ X) (47 ∷ 47 ∷ [])) (skips (length (comment (b ∷ X)))) _ (is_no_comment b X high)
    ∙ cond-false (is_letter b) (name_front (take_while is_name_byte (b ∷ X))) _ (no_letter b low (is_letter b) refl)
    ∙ cond-true (is_digit b) (number_front (take_while is_digit (b ∷ X)) (hex_digits (b ∷ X)))
    (sign_front b (take 2 (b ∷ X))) digit

name_is_front : (text Y : List ℕ) → is_identifier text ≡ true → is_word text ≡ false → Stops Y
    → IsFront text kind.Name Y
name_is_front [] Y h no_word stop = absurd cc
name_is_front (b ∷ text) Y h no_word stop =
    let letter = and_left (is_letter b) _ h in
    let here : is_name_byte b ≡ true = or_left (is_letter b) (is_digit b) letter in
    let all : list_all is_name_byte (b ∷ text) ≡ true = rw here (and_right (is_letter b) _ h) in
    front_of_letter b (text ++ Y) letter ∙ ap name_front (run_before is_name_byte (b ∷ text) Y all (stops_names Y stop))
    ∙ ap (λ (t : Bool). makes (length (b ∷ text)) (cond t kind.Word kind.Name)) no_word

digit_is : (c : ℕ) → (47 < c) → (c ≤ 57) → is_digit c ≡ true
digit_is c high low = rw (le-leb 48 c (omega (arith, high)), le-leb c 57 low) refl

second-false : (a b c : Bool) → b ≡ false → (a && (b && c)) ≡ false
second-false true b c e = rw e refl
second-false false b c e = refl

-- digits before such a text do not begin with 0x
is_no_hex : (c : ℕ) (ds Y : List ℕ) → AllDigits 10 ds → Stops Y → starts_with eqb (c ∷ (ds ++ Y)) (48 ∷ 120 ∷ [])
    ≡ false
is_no_hex c [] [] h stop = second-false (eqb 48 c) false false refl
is_no_hex c [] (y ∷ Y) h stop =
    second-false (eqb 48 c) (eqb 120 y) true (ne_eqb 120 y (λ e. let clash : is_name_byte 120 ≡ false =
    subst (λ (b : ℕ). is_name_byte b ≡ false) (sym e) stop in cc))
is_no_hex c (d ∷ ds) Y h stop =
    let k = digit_from_value d h.0 in
    second-false (eqb 48 c) (eqb 120 d) true (ne_eqb 120 d (λ e. omega (arith, k, e)))

number_is_front : (ds Y : List ℕ) → 0 < length ds → AllDigits 10 ds → Stops Y → IsFront ds kind.Num Y
number_is_front [] Y some h stop = absurd (omega (arith, some))
number_is_front (c ∷ ds) Y some h stop =
    let k = digit_from_value c h.0 in
    let high : 47 < c = omega (arith, k) in
    let low : c ≤ 57 = omega (arith, k) in
    let no_hex : hex_digits (c ∷ (ds ++ Y)) ≡ [] = rw (is_no_hex c ds Y h.1 stop) refl in
    front_of_digit c (ds ++ Y) high low (digit_is c high low)
    ∙ ap (λ (hex : List ℕ). number_front (take_while is_digit (c ∷ (ds ++ Y))) hex) no_hex
    ∙ ap (λ (digits : List ℕ). number_front digits []) (run_before is_digit (c ∷ ds) Y (all_digits (c ∷ ds) h)
    (stops_digits Y stop))

same_digit : (c : ℕ) → 47 < c → c ≤ 57 → digit_value c ≡ char.digit_value c
same_digit c high low =
    let e : c - 48 ≡ char.digit_value c = omega (arith, digit_value_digit c (omega (arith, high, low)), high) in
    rw (digit_is c high low) e

same_values : (n : ℕ) (ds : List ℕ) → AllDigits 10 ds → fold (λ n b. n * 10 + digit_value b) n ds
    ≡ digits_value_after 10 n ds
same_values n [] h = refl
same_values n (c ∷ ds) h =
    let k = digit_from_value c h.0 in
    ap (λ (v : ℕ). fold (λ n b. n * 10 + digit_value b) (n * 10 + v) ds)
    (same_digit c (omega (arith, k)) (omega (arith, k)))
    ∙ same_values (n * 10 + char.digit_value c) ds h.1

number_is : (ds : List ℕ) → AllDigits 10 ds → number_value ds ≡ digits_value 10 ds
number_is [] h = refl
number_is (c ∷ ds) h =
    let no_hex : starts_with eqb (c ∷ ds) (48 ∷ 120 ∷ []) ≡ false =
    subst (λ (X : List ℕ). starts_with eqb (c ∷ X) (48 ∷ 120 ∷ []) ≡ false) (append-nil ds)
    (is_no_hex c ds [] h.1 tt) in
    rw no_hex (same_values 0 (c ∷ ds) h)

-- a name of this spelling
abbrev pub IsNamed : Ident → Ident → Type 0
IsNamed x y = y.name ≡ x.name

-- a number of this value
abbrev pub IsNumber : ℕ → Number → Type 0
IsNumber n m = m.value ≡ n

pub read_name : (x : Ident) (what : Option Limit) (Y : List ℕ) → IsPrintableName x → what ≡ None → Stops Y
    → Reads (limited_name what) (IsNamed x) (x.name ++ Y) Y
read_name x what Y h free stop at =
    let y : Ident = record { name = x.name; at = at } in
    let short : nat_lt NAME_BYTES (length x.name) ≡ false = le-ltb NAME_BYTES (length x.name) h.short in
    read_token ident_of (name_limit what) (IsNamed x) (x.name ++ Y) Y at (at + length x.name)
    (record { at = at; kind = kind.Name; text = x.name }) y refl (rw (short, free) refl) refl
    (token_first x.name kind.Name Y at (name_is_front x.name Y h.name h.no_word stop))

pub read_number : (n : ℕ) (what : ℕ → Option Limit) (Y : List ℕ) → n < 2 ^ 32 → what n ≡ None → Stops Y
    → Reads (limited_number what) (IsNumber n) (decimal n ++ Y) Y
read_number n what Y low free stop at =
    let numeral = decimal_is_IsNumeral n (omega (arith, low)) in
    let value : number_value (decimal n) ≡ n = number_is (decimal n) numeral.0.1 ∙ numeral.1 in
    let m : Number = record { value = number_value (decimal n); at = at } in
    let short : nat_lt n (2 ^ 32) ≡ true = lt-ltb n (2 ^ 32) low in
    let no_limit : number_limit what m ≡ None = rw (value, short, free) refl in
    read_token number_of_token (number_limit what) (IsNumber n) (decimal n ++ Y) Y at (at + length (decimal n))
    (record { at = at; kind = kind.Num; text = decimal n }) m refl no_limit value
    (token_first (decimal n) kind.Num Y at (number_is_front (decimal n) Y numeral.0.0 numeral.0.1 stop))
