-- Between the tokens of a text are blanks and comments alone.
use Rattle.std.proofs.Common.{◌≡◌, ℕ, zero, suc, ◌+◌, ◌-◌, ◌≤◌, Bool, true, false, cond, eqb, not, List, [], ◌∷◌, ◌++◌}
use Rattle.std.proofs.Common.{length, take, drop, Option, Some, None, refl, sym, ap, subst, ◌∙◌, arith, append_assoc}
use Rattle.std.proofs.Common.{length-append, inl, inr}
use Rattle.std.specs.Prelude.{◌⊎◌, fold}
use Rattle.std.specs.List.{take_while, prefix_len, starts_with}
use Rattle.std.proofs.Math.Seq.{take-append_seam}
use Rattle.std.proofs.lemmas.Bool.{eqb-true}
use Rattle.std.proofs.lemmas.List.{length-take-le, length-drop, take-append-drop}
use Rattle.std.proofs.lemmas.List.Sums.{fold-append}
use Rattle.std.proofs.lemmas.List.Folds.{length-prefix_len}
use Rattle.rt_lemmas.proofs.Lists.{drop_drop}
use Rattle.rt_lemmas.proofs.Bools.{and_left, and_right, true_and_false}
use Rattle.rt_lex.specs.declared.token.Kind.{Kind}
use Rattle.rt_lex.specs.declared.token.Kind.TheVariants as kind
use Rattle.rt_lex.specs.Bytes.{is_blank}
use Rattle.rt_ids.specs.Byte.{is_digit, is_letter, is_name_byte}
use Rattle.rt_lex.specs.Spelling.{is_long_sign, is_short_sign}
use Rattle.rt_lex.specs.Token.{Token}
use Rattle.rt_lex.specs.Front.{Front, skips, makes, comment, front_of, name_front, number_front, sign_front, hex_digits}
use Rattle.rt_lex.specs.Tokens.{tokens, tokens_at, with_front}
use Rattle.rt_lex.specs.Gap.{GapState, Outside, Slash, Inside, Lost, after_byte, standing_after, HaveGaps}
use Rattle.rt_lex.proofs.Lexing.{takes, by_test}

-- an automaton that is inside a comment is at the end of its line
abbrev Stops : List ℕ → Type 0
Stops [] = Unit {0}
Stops (b ∷ text) = b ≡ 10

-- the states that the automaton may have before this text
abbrev MayStand : GapState → List ℕ → Type 0
MayStand Outside text = Unit {0}
MayStand Slash text = ⊥
MayStand Inside text = Stops text
MayStand Lost text = ⊥

inside_at : (b : ℕ) (text : List ℕ) (test : Bool) → eqb b 10 ≡ test → fold after_byte Inside
    (take_while (λ c. not (eqb c 10)) text) ≡ Inside
    → fold after_byte Inside (take (cond (not test) (1 + prefix_len (λ c. not (eqb c 10)) text) 0) (b ∷ text)) ≡ Inside
inside_at b text true e h = refl
inside_at b text false e h =
    let n : 1 + prefix_len (λ c. not (eqb c 10)) text ≡ suc (prefix_len (λ c. not (eqb c 10)) text) = omega arith in
    let step : after_byte Inside b ≡ Inside = rw e refl in
    rw n (ap (λ (s : GapState). fold after_byte s (take_while (λ c. not (eqb c 10)) text)) step ∙ h)

-- a comment's bytes stay inside
stays_inside : (text : List ℕ) → fold after_byte Inside (comment text) ≡ Inside
stays_inside [] = refl
stays_inside (b ∷ text) = inside_at b text (eqb b 10) refl (stays_inside text)

stops_at : (b : ℕ) (text : List ℕ) (test : Bool) → eqb b 10 ≡ test → Stops
    (drop (prefix_len (λ c. not (eqb c 10)) text) text)
    → Stops (drop (cond (not test) (1 + prefix_len (λ c. not (eqb c 10)) text) 0) (b ∷ text))
stops_at b text true e h = eqb-true b 10 e
stops_at b text false e h =
    let n : 1 + prefix_len (λ c. not (eqb c 10)) text ≡ suc (prefix_len (λ c. not (eqb c 10)) text) = omega arith in
    rw n h

-- a line feed or nothing follows a comment
comment_stops : (text : List ℕ) → Stops (drop (prefix_len (λ c. not (eqb c 10)) text) text)
comment_stops [] = tt
comment_stops (b ∷ text) = stops_at b text (eqb b 10) refl (comment_stops text)

-- what a front does to a state that the automaton may have before it
pub record Skipped (text : List ℕ) (front : Front) (s : GapState) : Type 0 where
  pub may : MayStand (fold after_byte s (take front.len text)) (drop front.len text)

pub record Made (text : List ℕ) (s : GapState) : Type 0 where
  pub outside : s ≡ Outside
  pub plain : starts_with eqb text (47 ∷ 47 ∷ []) ≡ false

abbrev Does : List ℕ → GapState → Front → Type 0
Does text s front = ((front.kind ≡ None) × Skipped text front s) ⊎ ((front.kind ≡ None → ⊥) × Made text s)

blank_does : (b : ℕ) (text : List ℕ) (s : GapState) → MayStand s (b ∷ text) → is_blank b ≡ true
    → Does (b ∷ text) s (skips 1)
blank_does b text Outside may e = inl (refl, record { may = rw e tt })
blank_does b text Slash may e = absurd may
blank_does b text Inside may e = inl (refl, record { may = rw may tt })
blank_does b text Lost may e = absurd may

-- the two slashes of a comment
slashes : (b x : ℕ) (rest : List ℕ) → 47 ≡ b → 47 ≡ x → fold after_byte Outside (comment (b ∷ x ∷ rest)) ≡ Inside
slashes b x rest h k =
    let n : (m : ℕ) → 1 + (1 + m) ≡ suc (suc m) = λ m. omega arith in
    let there : fold after_byte Outside (comment (47 ∷ 47 ∷ rest)) ≡ Inside =
    rw (n (prefix_len (λ c. not (eqb c 10)) rest)) (stays_inside rest) in
    subst (λ (c : ℕ). fold after_byte Outside (comment (c ∷ x ∷ rest)) ≡ Inside) h
    (subst (λ (c : ℕ). fold after_byte Outside (comment (47 ∷ c ∷ rest)) ≡ Inside) k there)

stands_inside : (s : GapState) (text : List ℕ) → s ≡ Inside → Stops text → MayStand s text
stands_inside s text e h = rw e h

comment_skips : (b : ℕ) (text : List ℕ) → starts_with eqb (b ∷ text) (47 ∷ 47 ∷ []) ≡ true
    → Skipped (b ∷ text) (skips (length (comment (b ∷ text)))) Outside
comment_skips b [] e = absurd (true_and_false false (and_right (eqb 47 b) false e) refl)
comment_skips b (x ∷ rest) e =
    let whole = b ∷ x ∷ rest in
    let len : length (comment whole) ≡ prefix_len (λ c. not (eqb c 10)) whole =
    length-prefix_len (λ c. not (eqb c 10)) whole in
    let first = eqb-true 47 b (and_left (eqb 47 b) _ e) in
    let second = eqb-true 47 x (and_left (eqb 47 x) _ (and_right (eqb 47 b) _ e)) in
    record {
      may = rw len (stands_inside (fold after_byte Outside (comment whole)) _ (slashes b x rest first second)
          (comment_stops whole));
    }

comment_does : (b : ℕ) (text : List ℕ) (s : GapState) → MayStand s (b ∷ text) → is_blank b ≡ false
    → starts_with eqb (b ∷ text) (47 ∷ 47 ∷ []) ≡ true → Does (b ∷ text) s (skips (length (comment (b ∷ text))))
comment_does b text Outside may other e = inl (refl, comment_skips b text e)
comment_does b text Slash may other e = absurd may
comment_does b text Inside may other e = absurd (true_and_false (is_blank 10) refl
    (subst (λ (c : ℕ). is_blank c ≡ false) may other))
comment_does b text Lost may other e = absurd may

token_does : (b : ℕ) (text : List ℕ) (s : GapState) → MayStand s (b ∷ text) → is_blank b ≡ false
    → starts_with eqb (b ∷ text) (47 ∷ 47 ∷ []) ≡ false → Made (b ∷ text) s
token_does b text Outside may other e = record { outside = refl; plain = e }
token_does b text Slash may other e = absurd may
token_does b text Inside may other e = absurd (true_and_false (is_blank 10) refl
    (subst (λ (c : ℕ). is_blank c ≡ false) may other))
token_does b text Lost may other e = absurd may

front_does : (b : ℕ) (text : List ℕ) (s : GapState) → MayStand s (b ∷ text) → Does (b ∷ text) s (front_of b (b ∷ text))
front_does b text s may =
    let whole = b ∷ text in
    by_test (Does whole s) (is_blank b) (skips 1) _ (λ e. blank_does b text s may e) (λ other.
    by_test (Does whole s) (starts_with eqb whole (47 ∷ 47 ∷ [])) (skips (length (comment whole))) _
    (λ e. comment_does b text s may other e) (λ e.
    let made = token_does b text s may other e in
    by_test (Does whole s) (is_letter b) (name_front (take_while is_name_byte whole)) _ (λ f. inr ((λ n. cc), made))
    (λ f.
    by_test (Does whole s) (is_digit b) (number_front (take_while is_digit whole) (hex_digits whole))
    (sign_front b (take 2 whole)) (λ f. inr ((λ n. cc), made)) (λ f.
    by_test (Does whole s) (is_long_sign (take 2 whole)) (makes 2 kind.Sign)
    (makes 1 (cond (is_short_sign b) kind.Sign kind.Foreign)) (λ f. inr ((λ n. cc), made))
    (λ f. inr ((λ n. cc), made))))))

-- a state that the automaton may have at the end of the text
last_gap : (s : GapState) → MayStand s [] → (s ≡ Lost → ⊥) × (s ≡ Slash → ⊥)
last_gap Outside may = (λ e. cc, λ e. cc)
last_gap Slash may = absurd may
last_gap Inside may = (λ e. cc, λ e. cc)
last_gap Lost may = absurd may

-- so far the bytes from an offset on are a gap, and this text follows them
record Reads (src : List ℕ) (from at : ℕ) (text gap : List ℕ) : Type 0 where
  here : drop at src ≡ text
  whole : drop from src ≡ gap ++ text
  place : from + length gap ≡ at
  may : MayStand (standing_after gap) text

gap_is : (src : List ℕ) (from at : ℕ) (text gap : List ℕ) → Reads src from at text gap
    → take (at - from) (drop from src) ≡ gap
gap_is src from at text gap r =
    let n : at - from ≡ length gap = omega (arith, r.place) in
    rw (n, r.whole) (take-append_seam gap text)

longer : (src : List ℕ) (from at n : ℕ) (text gap : List ℕ) → Reads src from at text gap → n ≤ length text
    → MayStand (fold after_byte (standing_after gap) (take n text)) (drop n text)
    → Reads src from (at + n) (drop n text) (gap ++ take n text)
longer src from at n text gap r fits may = record {
  here = drop_drop src at n text r.here;
  whole = r.whole ∙ ap (λ (t : List ℕ). gap ++ t) (sym (take-append-drop n text))
      ∙ sym (append_assoc gap (take n text) (drop n text));
  place = omega (arith, r.place, length-append gap (take n text), length-take-le n text fits);
  may = subst (λ (s : GapState). MayStand s (drop n text)) (sym (fold-append after_byte Outside gap (take n text))) may;
}

none_yet : (src : List ℕ) (at : ℕ) (text : List ℕ) → drop at src ≡ text → Reads src at at text []
none_yet src at text h = record { here = h; whole = h; place = omega arith; may = tt }

skip_with : (src : List ℕ) (from at : ℕ) (own : List ℕ) (kind : Option Kind) (more : List Token) → kind ≡ None
    → HaveGaps src from more → HaveGaps src from (with_front kind at own more)
skip_with src from at own None more e h = h
skip_with src from at own (Some k) more e h = absurd cc

token_with : (src : List ℕ) (from at : ℕ) (own : List ℕ) (kind : Option Kind) (more : List Token) → (kind ≡ None → ⊥)
    → standing_after (take (at - from) (drop from src)) ≡ Outside
    → starts_with eqb (drop at src) (47 ∷ 47 ∷ []) ≡ false → HaveGaps src (at + length own) more
    → HaveGaps src from (with_front kind at own more)
token_with src from at own None more e out plain h = absurd (e refl)
token_with src from at own (Some k) more e out plain h = (out, plain, h)

gaps_of : (src : List ℕ) (fuel from at : ℕ) (text gap : List ℕ) → length text ≤ fuel → Reads src from at text gap
    → HaveGaps src from (tokens_at at text)
gaps_of src fuel from at [] gap h r =
    rw (r.whole, fold-append after_byte Outside gap []) (last_gap (standing_after gap) r.may)
gaps_of src zero from at (b ∷ text) gap h r = absurd (omega (arith, h))
gaps_of src (suc fuel) from at (b ∷ text) gap h r =
    let whole = b ∷ text in
    let front = front_of b whole in
    let t = takes at b text in
    let own = take front.len whole in
    let behind = drop front.len whole in
    let more = tokens_at (at + front.len) behind in
    let fits : length behind ≤ fuel = omega (arith, h, t.some, t.within, length-drop front.len whole) in
    let all : HaveGaps src from (with_front front.kind at own more) =
    elim (front_does b text (standing_after gap) r.may) [
      | inl skipped ↦ skip_with src from at own front.kind more skipped.0
          (gaps_of src fuel from (at + front.len) behind (gap ++ own) fits
          (longer src from at front.len whole gap r t.within skipped.1.may))
      | inr made ↦
          let next : HaveGaps src (at + front.len) more = gaps_of src fuel (at + front.len) (at + front.len) behind []
          fits (none_yet src (at + front.len) behind (drop_drop src at front.len whole r.here)) in
          let len : length own ≡ front.len = length-take-le front.len whole t.within in
          token_with src from at own front.kind more made.0 (ap standing_after (gap_is src from at whole gap r)
          ∙ made.1.outside) (ap (λ (x : List ℕ). starts_with eqb x (47 ∷ 47 ∷ [])) r.here ∙ made.1.plain)
          (subst (λ (k : ℕ). HaveGaps src (at + k) more) (sym len) next)
    ] in
    subst (HaveGaps src from) (sym t.found) all

pub tokens_have_gaps : (src : List ℕ) → HaveGaps src 0 (tokens src)
tokens_have_gaps src = gaps_of src (length src) 0 0 src [] (omega arith) (none_yet src 0 src refl)
