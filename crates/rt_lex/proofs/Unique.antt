-- A list of tokens that meets the three laws is the text's.
use Rattle.std.proofs.Common.{◌≡◌, ℕ, zero, suc, ◌+◌, ◌-◌, ◌<◌, ◌≤◌, Bool, true, false, ◌||◌, ◌&&◌, eqb, not, List, []}
use Rattle.std.proofs.Common.{◌∷◌, ◌++◌, length, take, drop, refl, sym, ap, subst, ◌∙◌, arith, inl, inr}
use Rattle.std.specs.Prelude.{◌⊎◌, fold, nat_le}
use Rattle.std.specs.List.{list_any, starts_with, AllByRecursion}
use Rattle.std.proofs.lemmas.Bool.{eqb-true, leb-true}
use Rattle.std.proofs.lemmas.List.{length-drop, drop-drop}
use Rattle.std.proofs.lemmas.List.Sums.{fold-append}
use Rattle.std.proofs.Math.Seq.{take-add, take-length}
use Rattle.rt_lemmas.proofs.Bools.{and_left, and_right, or_cases, or_left, or_right, true_and_false, not_true, not_so}
use Rattle.rt_lemmas.proofs.Texts.{any_text_is}
use Rattle.rt_lex.specs.declared.token.Kind.{Kind}
use Rattle.rt_lex.specs.declared.token.Kind.TheVariants as kind
use Rattle.rt_lex.specs.Bytes.{is_blank}
use Rattle.rt_ids.specs.Byte.{is_digit, is_letter, is_lower, is_upper}
use Rattle.rt_ids.specs.Word.{is_word, is_identifier}
use Rattle.rt_lex.specs.Spelling.{short_signs, long_signs}
use Rattle.rt_lex.specs.Token.{Token}
use Rattle.rt_lex.specs.Tokens.{tokens}
use Rattle.rt_lex.specs.Split.{is_run, is_hex, is_number, is_sign, is_whole, is_foreign, has_kind, LieIn, IsSlice}
use Rattle.rt_lex.specs.Split.{IsLongest}
use Rattle.rt_lex.specs.Gap.{GapState, Outside, Slash, Inside, Lost, after_byte, standing_after, HaveGaps, IsLastGap}
use Rattle.rt_lex.proofs.Parts.{tokens_lie, tokens_longest}
use Rattle.rt_lex.proofs.Gaps.{tokens_have_gaps}

-- A name begins with a letter, a number with a digit, and a sign with neither.
number_first : (b : ℕ) (text : List ℕ) → is_number (b ∷ text) ≡ true → is_digit b ≡ true
number_first b text h =
    elim (or_cases (is_run is_digit (b ∷ text)) (is_hex (b ∷ text)) h) [
      | inl decimal ↦ and_left (is_digit b) _ decimal
      | inr hex ↦
          zero (eqb-true 48 b (and_left (eqb 48 b) _ (and_left (starts_with eqb (b ∷ text) (48 ∷ 120 ∷ [])) _ hex)))
    ]
  where
    zero : 48 ≡ b → is_digit b ≡ true
    zero e = subst (λ (c : ℕ). is_digit c ≡ true) e refl

-- the first byte of a sign is no letter, no digit and no blank
record IsPlain (b : ℕ) : Type 0 where
  letter : is_letter b ≡ false
  digit : is_digit b ≡ false
  blank : is_blank b ≡ false

plain_byte : (b : ℕ) → is_letter b ≡ false → is_digit b ≡ false → is_blank b ≡ false → IsPlain b
plain_byte b l d k = record { letter = l; digit = d; blank = k }

any_byte_is : (P : ℕ → Type 0) (b : ℕ) (bytes : List ℕ) → AllByRecursion P bytes → list_any (λ s. eqb s b) bytes ≡ true
    → P b
any_byte_is P b [] all h = absurd cc
any_byte_is P b (s ∷ bytes) all h =
    elim (or_cases (eqb s b) (list_any (λ s. eqb s b) bytes) h) [
      | inl here ↦ subst P (eqb-true s b here) all.0
      | inr there ↦ any_byte_is P b bytes all.1 there
    ]

all_plain : AllByRecursion IsPlain short_signs
all_plain =
    let p = λ (b : ℕ) (l : is_letter b ≡ false) (d : is_digit b ≡ false) (k : is_blank b ≡ false).
    plain_byte b l d k in (
      p 40 refl refl refl,
      (
        p 41 refl refl refl,
        (
          p 123 refl refl refl,
          (
            p 125 refl refl refl,
            (
              p 91 refl refl refl,
              (
                p 93 refl refl refl,
                (
                  p 61 refl refl refl,
                  (
                    p 44 refl refl refl,
                    (
                      p 59 refl refl refl,
                      (
                        p 38 refl refl refl,
                        (
                          p 124 refl refl refl,
                          (
                            p 94 refl refl refl,
                            (
                              p 43 refl refl refl,
                              (
                                p 45 refl refl refl,
                                (
                                  p 42 refl refl refl,
                                  (
                                    p 47 refl refl refl,
                                    (
                                      p 37 refl refl refl,
                                      (
                                        p 60 refl refl refl,
                                        (p 62 refl refl refl, tt),
                                      ),
                                    ),
                                  ),
                                ),
                              ),
                            ),
                          ),
                        ),
                      ),
                    ),
                  ),
                ),
              ),
            ),
          ),
        ),
      ),
    )

abbrev FirstIsPlain : List ℕ → Type 0
FirstIsPlain [] = Unit {0}
FirstIsPlain (b ∷ text) = IsPlain b

all_long_plain : AllByRecursion FirstIsPlain long_signs
all_long_plain =
    let p = λ (b : ℕ) (l : is_letter b ≡ false) (d : is_digit b ≡ false) (k : is_blank b ≡ false).
    plain_byte b l d k in (
      p 60 refl refl refl,
      (
        p 62 refl refl refl,
        (
          p 61 refl refl refl,
          (p 33 refl refl refl, (p 60 refl refl refl, (p 62 refl refl refl, (p 46 refl refl refl, tt)))),
        ),
      ),
    )

sign_first : (b : ℕ) (text : List ℕ) → is_sign (b ∷ text) ≡ true → IsPlain b
sign_first b [] h = any_byte_is IsPlain b short_signs all_plain h
sign_first b (c ∷ text) h = any_text_is FirstIsPlain (b ∷ c ∷ text) long_signs all_long_plain h

-- a blank is none of these
blank_low : (b : ℕ) → is_blank b ≡ true → b ≤ 32
blank_low b h =
    elim (or_cases ((eqb b 32 || eqb b 9) || eqb b 10) (eqb b 13) h) [
      | inl more ↦ elim (or_cases (eqb b 32 || eqb b 9) (eqb b 10) more) [
        | inl two ↦ elim (or_cases (eqb b 32) (eqb b 9) two) [
          | inl e ↦ omega (arith, eqb-true b 32 e)
          | inr e ↦ omega (arith, eqb-true b 9 e)
        ]
        | inr e ↦ omega (arith, eqb-true b 10 e)
      ]
      | inr e ↦ omega (arith, eqb-true b 13 e)
    ]

digit_low : (b : ℕ) → is_digit b ≡ true → (48 ≤ b) × (b ≤ 57)
digit_low b h = (leb-true 48 b (and_left (nat_le 48 b) _ h), leb-true b 57 (and_right (nat_le 48 b) _ h))

letter_high : (b : ℕ) → is_letter b ≡ true → 65 ≤ b
letter_high b h =
    elim (or_cases (is_lower b || is_upper b) (eqb b 95) h) [
      | inl more ↦ elim (or_cases (is_lower b) (is_upper b) more) [
        | inl lower ↦ omega (arith, leb-true 97 b (and_left (nat_le 97 b) _ lower))
        | inr upper ↦ leb-true 65 b (and_left (nat_le 65 b) _ upper)
      ]
      | inr line ↦ omega (arith, eqb-true b 95 line)
    ]

whole_no_blank : (b : ℕ) (text : List ℕ) → is_whole (b ∷ text) ≡ true → is_blank b ≡ false
whole_no_blank b text h = not_so (is_blank b) (λ blank.
    elim (or_cases (is_identifier (b ∷ text) || is_number (b ∷ text)) (is_sign (b ∷ text)) h) [
      | inl other ↦ elim (or_cases (is_identifier (b ∷ text)) (is_number (b ∷ text)) other) [
        | inl name ↦ omega (arith, blank_low b blank, letter_high b (and_left (is_letter b) _ name))
        | inr number ↦ omega (arith, blank_low b blank, digit_low b (number_first b text number))
      ]
      | inr sign ↦ true_and_false (is_blank b) blank (sign_first b text sign).blank
    ])

-- of each kind but the last a text is whole
abbrev WholeOr : Kind → List ℕ → Type 0
WholeOr kind.Foreign text = is_foreign text ≡ true
WholeOr other text = is_whole text ≡ true

whole_or : (k : Kind) (text : List ℕ) → has_kind k text ≡ true → WholeOr k text
whole_or kind.Name text h = or_left (is_identifier text || is_number text) _
    (or_left (is_identifier text) _ (and_left (is_identifier text) _ h))
whole_or kind.Word text h = or_left (is_identifier text || is_number text) _
    (or_left (is_identifier text) _ (and_left (is_identifier text) _ h))
whole_or kind.Num text h = or_left (is_identifier text || is_number text) _ (or_right (is_identifier text) _ h)
whole_or kind.Sign text h = or_right (is_identifier text || is_number text) _ h
whole_or kind.Foreign text h = h

foreign_first : (b : ℕ) (text : List ℕ) → is_foreign (b ∷ text) ≡ true → is_blank b ≡ false
foreign_first b [] h = not_true (is_blank b) (and_left (not (is_blank b)) _ h)
foreign_first b (c ∷ text) h = absurd cc

-- a token begins with no blank
token_no_blank : (k : Kind) (b : ℕ) (text : List ℕ) → WholeOr k (b ∷ text) → is_blank b ≡ false
token_no_blank kind.Name b text h = whole_no_blank b text h
token_no_blank kind.Word b text h = whole_no_blank b text h
token_no_blank kind.Num b text h = whole_no_blank b text h
token_no_blank kind.Sign b text h = whole_no_blank b text h
token_no_blank kind.Foreign b text h = foreign_first b text h

-- Kinds exclude each other.
name_no_number : (text : List ℕ) → is_identifier text ≡ true → is_number text ≡ true → ⊥
name_no_number [] h k = cc
name_no_number (b ∷ text) h k = omega (
  arith,
  letter_high b (and_left (is_letter b) _ h),
  digit_low b (number_first b text k),
)

name_no_sign : (text : List ℕ) → is_identifier text ≡ true → is_sign text ≡ true → ⊥
name_no_sign [] h k = cc
name_no_sign (b ∷ text) h k = true_and_false (is_letter b) (and_left (is_letter b) _ h) (sign_first b text k).letter

number_no_sign : (text : List ℕ) → is_number text ≡ true → is_sign text ≡ true → ⊥
number_no_sign [] h k = cc
number_no_sign (b ∷ text) h k = true_and_false (is_digit b) (number_first b text h) (sign_first b text k).digit

foreign_no_whole : (text : List ℕ) → is_foreign text ≡ true → is_whole text ≡ true → ⊥
foreign_no_whole [] h k = cc
foreign_no_whole (b ∷ []) h k = true_and_false (is_whole (b ∷ [])) k
    (not_true (is_whole (b ∷ [])) (and_right (not (is_blank b)) _ h))
foreign_no_whole (b ∷ c ∷ text) h k = cc

word_no_name : (text : List ℕ) → (is_identifier text && is_word text) ≡ true
    → (is_identifier text && not (is_word text)) ≡ true → ⊥
word_no_name text h k = true_and_false (is_word text) (and_right (is_identifier text) _ h)
    (not_true (is_word text) (and_right (is_identifier text) _ k))

same_kind : (j k : Kind) (text : List ℕ) → has_kind j text ≡ true → has_kind k text ≡ true → j ≡ k
same_kind kind.Name kind.Name text h i = refl
same_kind kind.Name kind.Word text h i = absurd (word_no_name text i h)
same_kind kind.Name kind.Num text h i = absurd (name_no_number text (and_left (is_identifier text) _ h) i)
same_kind kind.Name kind.Sign text h i = absurd (name_no_sign text (and_left (is_identifier text) _ h) i)
same_kind kind.Name kind.Foreign text h i = absurd (foreign_no_whole text i (whole_or kind.Name text h))
same_kind kind.Word kind.Name text h i = absurd (word_no_name text h i)
same_kind kind.Word kind.Word text h i = refl
same_kind kind.Word kind.Num text h i = absurd (name_no_number text (and_left (is_identifier text) _ h) i)
same_kind kind.Word kind.Sign text h i = absurd (name_no_sign text (and_left (is_identifier text) _ h) i)
same_kind kind.Word kind.Foreign text h i = absurd (foreign_no_whole text i (whole_or kind.Word text h))
same_kind kind.Num kind.Name text h i = absurd (name_no_number text (and_left (is_identifier text) _ i) h)
same_kind kind.Num kind.Word text h i = absurd (name_no_number text (and_left (is_identifier text) _ i) h)
same_kind kind.Num kind.Num text h i = refl
same_kind kind.Num kind.Sign text h i = absurd (number_no_sign text h i)
same_kind kind.Num kind.Foreign text h i = absurd (foreign_no_whole text i (whole_or kind.Num text h))
same_kind kind.Sign kind.Name text h i = absurd (name_no_sign text (and_left (is_identifier text) _ i) h)
same_kind kind.Sign kind.Word text h i = absurd (name_no_sign text (and_left (is_identifier text) _ i) h)
same_kind kind.Sign kind.Num text h i = absurd (number_no_sign text i h)
same_kind kind.Sign kind.Sign text h i = refl
same_kind kind.Sign kind.Foreign text h i = absurd (foreign_no_whole text i (whole_or kind.Sign text h))
same_kind kind.Foreign kind.Name text h i = absurd (foreign_no_whole text h (whole_or kind.Name text i))
same_kind kind.Foreign kind.Word text h i = absurd (foreign_no_whole text h (whole_or kind.Word text i))
same_kind kind.Foreign kind.Num text h i = absurd (foreign_no_whole text h (whole_or kind.Num text i))
same_kind kind.Foreign kind.Sign text h i = absurd (foreign_no_whole text h (whole_or kind.Sign text i))
same_kind kind.Foreign kind.Foreign text h i = refl

-- A reading of a gap that meets a token is in no gap any more.
abbrev Stuck : GapState → Type 0
Stuck Outside = ⊥
Stuck Slash = Unit {0}
Stuck Inside = ⊥
Stuck Lost = Unit {0}

lost : (text : List ℕ) → fold after_byte Lost text ≡ Lost
lost [] = refl
lost (b ∷ text) = lost text

stuck_lost : (s : GapState) (text : List ℕ) → s ≡ Lost → Stuck (fold after_byte s text)
stuck_lost s text e = subst Stuck (sym (ap (λ (s : GapState). fold after_byte s text) e ∙ lost text)) tt

slash_at : (c : ℕ) (text : List ℕ) (test : Bool) → eqb c 47 ≡ test → starts_with eqb (47 ∷ c ∷ text) (47 ∷ 47 ∷ [])
    ≡ false → Stuck (fold after_byte Slash (c ∷ text))
slash_at c text true e plain = let p : starts_with eqb (47 ∷ 47 ∷ text) (47 ∷ 47 ∷ []) ≡ false =
    subst (λ (c : ℕ). starts_with eqb (47 ∷ c ∷ text) (47 ∷ 47 ∷ []) ≡ false) (eqb-true c 47 e) plain in absurd cc
slash_at c text false e plain = let step : after_byte Slash c ≡ Lost = rw e refl in
    stuck_lost (after_byte Slash c) text step

slash_next : (text : List ℕ) → starts_with eqb (47 ∷ text) (47 ∷ 47 ∷ []) ≡ false → Stuck (fold after_byte Slash text)
slash_next [] plain = tt
slash_next (c ∷ text) plain = slash_at c text (eqb c 47) refl plain

stuck_at : (b : ℕ) (text : List ℕ) (test : Bool) → eqb b 47 ≡ test → is_blank b ≡ false
    → starts_with eqb (b ∷ text) (47 ∷ 47 ∷ []) ≡ false → Stuck (fold after_byte Outside (b ∷ text))
stuck_at b text true e dark plain =
    let step : after_byte Outside b ≡ Slash = rw (dark, e) refl in
    let p = subst (λ (c : ℕ). starts_with eqb (c ∷ text) (47 ∷ 47 ∷ []) ≡ false) (eqb-true b 47 e) plain in
    subst Stuck (sym (ap (λ (s : GapState). fold after_byte s text) step)) (slash_next text p)
stuck_at b text false e dark plain = let step : after_byte Outside b ≡ Lost = rw (dark, e) refl in
    stuck_lost (after_byte Outside b) text step

no_slashes : (n b : ℕ) (text : List ℕ) → starts_with eqb (b ∷ text) (47 ∷ 47 ∷ []) ≡ false
    → starts_with eqb (b ∷ take n text) (47 ∷ 47 ∷ []) ≡ false
no_slashes zero b text e = not_so (starts_with eqb (b ∷ []) (47 ∷ 47 ∷ []))
    (λ h. true_and_false false (and_right (eqb 47 b) false h) refl)
no_slashes (suc n) b [] e = e
no_slashes (suc n) b (c ∷ text) e = e

-- the first byte of a token in its text
record IsViablePrefix (src : List ℕ) (t : Token) : Type 0 where
  first : ℕ
  rest : List ℕ
  here : drop t.at src ≡ first ∷ rest
  dark : is_blank first ≡ false

begins_at : (src : List ℕ) (t : Token) (there text : List ℕ) → drop t.at src ≡ there → take (length text) there ≡ text
    → 0 < length text → WholeOr t.kind text → IsViablePrefix src t
begins_at src t there [] e s some w = absurd (omega (arith, some))
begins_at src t [] (x ∷ text) e s some w = absurd cc
begins_at src t (b ∷ rest) (x ∷ text) e s some w =
    let same : b ≡ x = cc in
    record {
      first = b;
      rest = rest;
      here = e;
      dark = subst (λ (c : ℕ). is_blank c ≡ false) (sym same)
          (token_no_blank t.kind x text w);
    }

begins : (src : List ℕ) (t : Token) → IsSlice src t → IsLongest src t → IsViablePrefix src t
begins src t s l = begins_at src t (drop t.at src) t.text refl s.slice l.some (whole_or t.kind t.text l.kind)

-- more bytes than come before a token are no gap
crosses : (src : List ℕ) (from : ℕ) (t : Token) → from ≤ t.at → IsViablePrefix src t
    → standing_after (take (t.at - from) (drop from src)) ≡ Outside → starts_with eqb (drop t.at src) (47 ∷ 47 ∷ [])
    ≡ false
    → (n : ℕ) → t.at - from < n → Stuck (standing_after (take n (drop from src)))
crosses src from t before s gap plain n far =
    let behind : drop (t.at - from) (drop from src) ≡ s.first ∷ s.rest =
    drop-drop (t.at - from) from src ∙ ap (λ (k : ℕ). drop k src) (arith_at from t.at before) ∙ s.here in
    let whole : take n (drop from src) ≡ take (t.at - from) (drop from src)
    ++ (s.first ∷ take (n - suc (t.at - from)) s.rest) =
    ap (λ (k : ℕ). take k (drop from src)) (split_at n (t.at - from) far)
    ∙ take-add (t.at - from) (suc (n - suc (t.at - from))) (drop from src)
    ∙ ap (λ (l : List ℕ). take (t.at - from) (drop from src) ++ take (suc (n - suc (t.at - from))) l) behind in
    let read : standing_after (take n (drop from src)) ≡ fold after_byte Outside
    (s.first ∷ take (n - suc (t.at - from)) s.rest) =
    ap standing_after whole ∙ fold-append after_byte Outside (take (t.at - from) (drop from src))
    (s.first ∷ take (n - suc (t.at - from)) s.rest)
    ∙ ap (λ (x : GapState). fold after_byte x (s.first ∷ take (n - suc (t.at - from)) s.rest)) gap in
    let p = no_slashes (n - suc (t.at - from)) s.first s.rest
    (subst (λ (l : List ℕ). starts_with eqb l (47 ∷ 47 ∷ []) ≡ false) s.here plain) in
    subst Stuck (sym read) (stuck_at s.first (take (n - suc (t.at - from)) s.rest) (eqb s.first 47) refl s.dark p)
  where
    arith_at : (a b : ℕ) → a ≤ b → a + (b - a) ≡ b
    arith_at a b h = omega (arith, h)

    split_at : (n g : ℕ) → g < n → n ≡ g + suc (n - suc g)
    split_at n g h = omega (arith, h)

stuck_no_gap : (s : GapState) → Stuck s → (s ≡ Lost → ⊥) → (s ≡ Slash → ⊥) → ⊥
stuck_no_gap Outside h f g = h
stuck_no_gap Slash h f g = g refl
stuck_no_gap Inside h f g = h
stuck_no_gap Lost h f g = f refl

-- where a token is, the rest of the text is no gap
token_no_gap : (src : List ℕ) (from : ℕ) (t : Token) (tokens : List Token) → LieIn src from (t ∷ tokens)
    → IsLongest src t → HaveGaps src from (t ∷ tokens) → IsLastGap (drop from src) → ⊥
token_no_gap src from t tokens lie l gaps last =
    let far : t.at - from < length (drop from src) = omega (arith, lie.0, lie.1.within, l.some, length-drop from src) in
    let stuck = crosses src from t lie.0 (begins src t lie.1 l) gaps.0 gaps.1 (length (drop from src)) far in
    let all : take (length (drop from src)) (drop from src) ≡ drop from src = take-length (drop from src) in
    stuck_no_gap (standing_after (drop from src)) (subst (λ (x : List ℕ). Stuck (standing_after x)) all stuck) last.0
    last.1

-- no token comes before the first of another list
no_earlier : (src : List ℕ) (from : ℕ) (t u : Token) (ts us : List Token) → LieIn src from (t ∷ ts) → IsLongest src t
    → HaveGaps src from (t ∷ ts) → HaveGaps src from (u ∷ us) → t.at < u.at → ⊥
no_earlier src from t u ts us lie l gaps others far =
    let more : t.at - from < u.at - from = omega (arith, far, lie.0) in
    subst Stuck others.0 (crosses src from t lie.0 (begins src t lie.1 l) gaps.0 gaps.1 (u.at - from) more)

-- a token that is longer than another at its place is whole
longer_whole : (k : Kind) (text : List ℕ) (n : ℕ) → WholeOr k text → 0 < n → n < length text → is_whole text ≡ true
longer_whole kind.Name text n h some more = h
longer_whole kind.Word text n h some more = h
longer_whole kind.Num text n h some more = h
longer_whole kind.Sign text n h some more = h
longer_whole kind.Foreign [] n h some more = absurd cc
longer_whole kind.Foreign (b ∷ []) n h some more = absurd (omega (arith, some, more))
longer_whole kind.Foreign (b ∷ c ∷ text) n h some more = absurd cc

-- of two tokens at one place none is longer
no_longer : (src : List ℕ) (t u : Token) → t.at ≡ u.at → IsSlice src u → IsLongest src t → IsLongest src u
    → length t.text < length u.text → ⊥
no_longer src t u e s l m more =
    let within : length u.text ≤ length (drop t.at src) = omega (arith, s.within, e, length-drop t.at src) in
    let same : take (length u.text) (drop t.at src) ≡ u.text = ap (λ (k : ℕ). take (length u.text) (drop k src)) e
    ∙ s.slice in
    true_and_false (is_whole u.text) (longer_whole u.kind u.text (length t.text) (whole_or u.kind u.text m.kind) l.some
    more)
    (subst (λ (x : List ℕ). is_whole x ≡ false) same (l.longest (length u.text) more within))

abbrev token : ℕ → Kind → List ℕ → Token
token at k text = record { at = at; kind = k; text = text }

same_token : (t u : Token) → t.at ≡ u.at → t.kind ≡ u.kind → t.text ≡ u.text → t ≡ u
same_token t u a k x =
    ap (λ (n : ℕ). token n t.kind t.text) a ∙ ap (λ (j : Kind). token u.at j t.text) k
    ∙ ap (λ (l : List ℕ). token u.at u.kind l) x

neither : (m n : ℕ) → (m < n → ⊥) → (n < m → ⊥) → m ≡ n
neither m n f g = elim (cut m n) [
  | inl less ↦ absurd (f less)
  | inr more ↦ elim (cut n m) [
    | inl less ↦ absurd (g less)
    | inr again ↦ omega (arith, more, again)
  ]
]
  where
    cut : (m n : ℕ) → (m < n) ⊎ (n ≤ m)
    cut zero zero = inr (omega arith)
    cut zero (suc n) = inl (omega arith)
    cut (suc m) zero = inr (omega arith)
    cut (suc m) (suc n) = elim (cut m n) [
      | inl less ↦ inl (omega (arith, less))
      | inr more ↦ inr (omega (arith, more))
    ]

same_first : (src : List ℕ) (from : ℕ) (t u : Token) (ts us : List Token) → LieIn src from (t ∷ ts) → IsLongest src t
    → HaveGaps src from (t ∷ ts) → LieIn src from (u ∷ us) → IsLongest src u → HaveGaps src from (u ∷ us) → t ≡ u
same_first src from t u ts us lt bt gt lu bu gu =
    let at : t.at ≡ u.at = neither t.at u.at (no_earlier src from t u ts us lt bt gt gu)
    (no_earlier src from u t us ts lu bu gu gt) in
    let len : length t.text ≡ length u.text = neither (length t.text) (length u.text) (no_longer src t u at lu.1 bt bu)
    (no_longer src u t (sym at) lt.1 bu bt) in
    let text : t.text ≡ u.text = sym lt.1.slice ∙ ap (λ (k : ℕ). take k (drop t.at src)) len
    ∙ ap (λ (k : ℕ). take (length u.text) (drop k src)) at ∙ lu.1.slice in
    let own : has_kind t.kind u.text ≡ true = subst (λ (x : List ℕ). has_kind t.kind x ≡ true) text bt.kind in
    same_token t u at (same_kind t.kind u.kind u.text own bu.kind) text

same_from : (src : List ℕ) (from : ℕ) (ts us : List Token) → LieIn src from ts → AllByRecursion (IsLongest src) ts
    → HaveGaps src from ts → LieIn src from us → AllByRecursion (IsLongest src) us → HaveGaps src from us → ts ≡ us
same_from src from [] [] lt bt gt lu bu gu = refl
same_from src from [] (u ∷ us) lt bt gt lu bu gu = absurd (token_no_gap src from u us lu bu.0 gu gt)
same_from src from (t ∷ ts) [] lt bt gt lu bu gu = absurd (token_no_gap src from t ts lt bt.0 gt gu)
same_from src from (t ∷ ts) (u ∷ us) lt bt gt lu bu gu =
    let first : t ≡ u = same_first src from t u ts us lt bt.0 gt lu bu.0 gu in
    let back = sym first in
    let rest : ts ≡ us = same_from src (t.at + length t.text) ts us lt.2 bt.1 gt.2
    (subst (λ (x : Token). LieIn src (x.at + length x.text) us) back lu.2) bu.1
    (subst (λ (x : Token). HaveGaps src (x.at + length x.text) us) back gu.2) in
    cc

-- whatever lies in the text, is longest and leaves gaps alone is its tokens
pub tokens_are_the_only : (src : List ℕ) (split : List Token) → LieIn src 0 split → AllByRecursion (IsLongest src) split
    → HaveGaps src 0 split → split ≡ tokens src
tokens_are_the_only src split lie long gaps = same_from src 0 split (tokens src) lie long gaps (tokens_lie src)
    (tokens_longest src) (tokens_have_gaps src)
