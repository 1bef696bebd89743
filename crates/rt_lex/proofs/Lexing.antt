-- The tokens of a text, one front at a time.
use Rattle.std.proofs.Common.{◌≡◌, ℕ, zero, suc, ◌+◌, ◌<◌, ◌≤◌, Bool, true, false, cond, eqb, not, List, [], ◌∷◌}
use Rattle.std.proofs.Common.{length, get_or, take, drop, refl, sym, ap, subst, ◌∙◌, lit<, arith}
use Rattle.std.specs.Prelude.{pred}
use Rattle.std.specs.List.{take_while, starts_with}
use Rattle.std.proofs.lemmas.Bool.{eqb-true, eqb-false}
use Rattle.std.proofs.lemmas.List.{length-take, length-drop}
use Rattle.rt_lemmas.proofs.Bools.{or_left, and_left}
use Rattle.rt_lemmas.proofs.Runs.{run_some, run_within}
use Rattle.rt_lemmas.proofs.Texts.{any_text_is}
use Rattle.rt_lex.specs.declared.token.Kind.TheVariants as kind
use Rattle.rt_lex.specs.Bytes.{is_hex_digit, is_blank}
use Rattle.rt_ids.specs.Byte.{is_name_byte, is_digit, is_letter}
use Rattle.rt_lex.specs.Spelling.{is_long_sign, is_short_sign, long_signs}
use Rattle.rt_lex.specs.Front.{Front, skips, makes, comment, front_of, name_front, number_front, sign_front, hex_digits}
use Rattle.rt_lex.specs.Tokens.{tokens_at, tokens_after, with_front}

-- bytes that belong to what has begun before
tokens_dropped : (n at : ℕ) (text : List ℕ) → tokens_after n at text ≡ tokens_at (at + n) (drop n text)
tokens_dropped zero at [] = refl
tokens_dropped zero at (b ∷ text) = let e : at ≡ at + 0 = omega arith in ap (λ (k : ℕ). tokens_at k (b ∷ text)) e
tokens_dropped (suc n) at [] = refl
tokens_dropped (suc n) at (b ∷ text) =
    let e : suc at + n ≡ at + suc n = omega arith in
    tokens_dropped n (suc at) text ∙ ap (λ (k : ℕ). tokens_at k (drop n text)) e

-- the bytes of a front: at least one, and not more than there are
pub record FitsIn (front : Front) (text : List ℕ) : Type 0 where
  pub some : 0 < front.len
  pub within : front.len ≤ length text

pub by_test : (P : Front → Type 0) (test : Bool) (x y : Front) → (test ≡ true → P x) → (test ≡ false → P y)
    → P (cond test x y)
by_test P true x y h k = h refl
by_test P false x y h k = k refl

pub long_has_two : (text : List ℕ) → is_long_sign text ≡ true → length text ≡ 2
long_has_two text h = any_text_is (λ s. length s ≡ 2) text long_signs
    (refl, (refl, (refl, (refl, (refl, (refl, (refl, tt))))))) h

hex_within : (text : List ℕ) (test : Bool) → (length (cond test (take_while is_hex_digit (drop 2 text)) []) ≡ 0 → ⊥) → 2
    + length (cond test (take_while is_hex_digit (drop 2 text)) []) ≤ length text
hex_within text true h = omega (arith, h, run_within is_hex_digit (drop 2 text), length-drop 2 text)
hex_within text false h = absurd (h refl)

comment_fits : (b : ℕ) (text : List ℕ) → starts_with eqb (b ∷ text) (47 ∷ 47 ∷ []) ≡ true
    → FitsIn (skips (length (comment (b ∷ text)))) (b ∷ text)
comment_fits b text h =
    let slash : 47 ≡ b = eqb-true 47 b (and_left (eqb 47 b) _ h) in
    let goes : not (eqb b 10) ≡ true = subst (λ (c : ℕ). not (eqb c 10) ≡ true) slash refl in
    record { some = run_some (λ c. not (eqb c 10)) b text goes; within = run_within (λ c. not (eqb c 10)) (b ∷ text) }

number_len : (whole digits hex : List ℕ) (test : Bool) → (test ≡ true → FitsIn (makes (length digits) kind.Num) whole)
    → (test ≡ false → FitsIn (makes (2 + length hex) kind.Num) whole)
    → FitsIn (makes (cond test (length digits) (2 + length hex)) kind.Num) whole
number_len whole digits hex true h k = h refl
number_len whole digits hex false h k = k refl

number_fits : (b : ℕ) (text : List ℕ) → is_digit b ≡ true → FitsIn
    (number_front (take_while is_digit (b ∷ text)) (hex_digits (b ∷ text))) (b ∷ text)
number_fits b text h =
    number_len (b ∷ text) (take_while is_digit (b ∷ text)) (hex_digits (b ∷ text))
    (eqb (length (hex_digits (b ∷ text))) 0)
    (λ e. record { some = run_some is_digit b text h; within = run_within is_digit (b ∷ text) })
    (λ e. record {
      some = omega arith;
      within = hex_within (b ∷ text) (starts_with eqb (b ∷ text) (48 ∷ 120 ∷ []))
          (eqb-false _ 0 e);
    })

sign_fits : (b : ℕ) (text : List ℕ) → FitsIn (sign_front b (take 2 (b ∷ text))) (b ∷ text)
sign_fits b text =
    let two = take 2 (b ∷ text) in
    by_test (λ f. FitsIn f (b ∷ text)) (is_long_sign two) (makes 2 kind.Sign)
    (makes 1 (cond (is_short_sign b) kind.Sign kind.Foreign))
    (λ e. record { some = lit< tt; within = omega (arith, length-take 2 (b ∷ text), long_has_two two e) })
    (λ e. record { some = lit< tt; within = omega arith })

name_fits : (b : ℕ) (text : List ℕ) → is_letter b ≡ true → FitsIn (name_front (take_while is_name_byte (b ∷ text)))
    (b ∷ text)
name_fits b text h = record {
  some = run_some is_name_byte b text (or_left (is_letter b) (is_digit b) h);
  within =
      run_within is_name_byte (b ∷ text);
}

pub front_fits : (b : ℕ) (text : List ℕ) → FitsIn (front_of b (b ∷ text)) (b ∷ text)
front_fits b text =
    let whole = b ∷ text in
    let sign = sign_front b (take 2 whole) in
    let number = number_front (take_while is_digit whole) (hex_digits whole) in
    let name = name_front (take_while is_name_byte whole) in
    by_test (λ f. FitsIn f whole) (is_blank b) (skips 1) _ (λ e. record { some = lit< tt; within = omega arith }) (λ e.
    by_test (λ f. FitsIn f whole) (starts_with eqb whole (47 ∷ 47 ∷ [])) (skips (length (comment whole))) _
    (comment_fits b text) (λ e.
    by_test (λ f. FitsIn f whole) (is_letter b) name _ (name_fits b text) (λ e.
    by_test (λ f. FitsIn f whole) (is_digit b) number sign (number_fits b text) (λ e. sign_fits b text))))

-- the tokens after a front of at least one byte
behind_front : (len at b : ℕ) (text : List ℕ) → 0 < len → tokens_at (suc at + pred len) (drop (pred len) text)
    ≡ tokens_at (at + len) (drop len (b ∷ text))
behind_front zero at b text h = absurd (omega arith)
behind_front (suc n) at b text h =
    let e : suc at + n ≡ at + suc n = omega arith in
    ap (λ (k : ℕ). tokens_at k (drop n text)) e

-- what a front takes from the text
pub record Takes (front : Front) (at : ℕ) (text : List ℕ) : Type 0 where
  pub some : 0 < front.len
  pub within : front.len ≤ length text
  pub found : tokens_at at text ≡ with_front front.kind at (take front.len text)
      (tokens_at (at + front.len) (drop front.len text))

pub takes : (at b : ℕ) (text : List ℕ) → Takes (front_of b (b ∷ text)) at (b ∷ text)
takes at b text =
    let front = front_of b (b ∷ text) in
    let fits = front_fits b text in
    record {
      some = fits.some;
      within = fits.within;
      found = ap (with_front front.kind at (take front.len (b ∷ text)))
          (tokens_dropped (pred front.len) (suc at) text ∙ behind_front front.len at b text fits.some);
    }

pub takes_first : (front : Front) (at : ℕ) (text : List ℕ) → 1 ≤ length text → front ≡ front_of (get_or text 0 0) text
    → Takes front at text
takes_first front at [] some e = absurd (omega arith)
takes_first front at (b ∷ rest) some e = subst (λ (f : Front). Takes f at (b ∷ rest)) (sym e) (takes at b rest)
