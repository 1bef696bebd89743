-- Which operator a token is, and which operator comes next.
use Rattle.std.proofs.Common.{◌≡◌, ℕ, Bool, true, false, List, [], ◌∷◌, length, Option, Some, None, refl, sym, ap}
use Rattle.std.proofs.Common.{subst, ◌∙◌, drop, cond, arith}
use Rattle.std.specs.Prelude.{is_some, ◌||◌, ◌&&◌, ◌≢◌, nat_eq, bytes_eq, slice_index, MatchOption}
use Rattle.std.proofs.Math.Bool.{and-true, and-false}
use Rattle.rt_ids.specs.declared.op.Op.{Op}
use Rattle.rt_lex.specs.Token.{Token, is_this_sign}
use Rattle.rt_grammar.specs.Expression.{Signs, op_of, comparisons}
use Rattle.rt_grammar.specs.Reach.{is_of}
use Rattle.rt_parse.specs.Inside.Reading.{token_at, begins_with}
use Rattle.rt_parse.specs.Inside.ReadingExpression.{operator_at}
use Rattle.rt_parse.specs.Inside.ExpressionView.{signs_of, IsOperator, IsAhead, IsCompared}
use Rattle.rt_parse.specs.declared.expression.Strength.{Strength}

chosen : (b : Bool) (o : Op) (more : Option Op) (c : Bool) → is_some more ≡ c → is_some (cond b (Some o) more) ≡ b || c
chosen true o more c e = refl
chosen false o more c e = e

pub is_some_op : (signs : Signs) (t : Token) → is_some (op_of signs t) ≡ is_of signs t
is_some_op [] t = refl
is_some_op (x ∷ signs) t = chosen (is_this_sign x.0 t) x.1 (op_of signs t) (is_of signs t) (is_some_op signs t)

-- A text of one byte, or of two, by its bytes.

pub one_byte : (text : List ℕ) (b : ℕ) → length text ≡ 1 → bytes_eq text (b ∷ []) ≡ nat_eq (slice_index text 0) b
one_byte [] b e = absurd cc
one_byte (x ∷ []) b e = and-true (nat_eq x b)
one_byte (x ∷ y ∷ text) b e = absurd (omega (arith, e))

pub many_bytes : (text : List ℕ) (b : ℕ) → length text ≢ 1 → bytes_eq text (b ∷ []) ≡ false
many_bytes [] b e = refl
many_bytes (x ∷ []) b e = absurd (e refl)
many_bytes (x ∷ y ∷ text) b e = and-false (nat_eq x b)

pub two_bytes : (text : List ℕ) (a b : ℕ) → length text ≡ 2 → bytes_eq text (a ∷ b ∷ []) ≡ nat_eq (slice_index text 0) a
    && nat_eq (slice_index text 1) b
two_bytes [] a b e = absurd cc
two_bytes (x ∷ []) a b e = absurd (omega (arith, e))
two_bytes (x ∷ y ∷ []) a b e = ap (λ (c : Bool). nat_eq x a && c) (and-true (nat_eq y b))
two_bytes (x ∷ y ∷ z ∷ text) a b e = absurd (omega (arith, e))

pub not_two_bytes : (text : List ℕ) (a b : ℕ) → length text ≢ 2 → bytes_eq text (a ∷ b ∷ []) ≡ false
not_two_bytes [] a b e = refl
not_two_bytes (x ∷ []) a b e = and-false (nat_eq x a)
not_two_bytes (x ∷ y ∷ []) a b e = absurd (e refl)
not_two_bytes (x ∷ y ∷ z ∷ text) a b e = ap (λ (c : Bool). nat_eq x a && c) (and-false (nat_eq y b))
    ∙ and-false (nat_eq x a)

-- What comes next, by the token that is ahead.

pub ahead : (o : Op) (s : Strength) (t : Token) (rest : List Token) → IsOperator o s t → IsAhead o s (t ∷ rest)
unfolding operator_at token_at
ahead o s t rest op = record {
  read = rw op.means refl;
  comes = sym (is_some_op (signs_of s) t) ∙ ap is_some op.means;
  strongest = op.strongest;
}

compares : (found : Option Op) (t : Token) (rest : List Token) → op_of comparisons t ≡ found
    → MatchOption found (begins_with (is_of comparisons) (t ∷ rest) ≡ false) (λ o. IsCompared o (t ∷ rest))
unfolding operator_at token_at
compares (Some o) t rest means = record {
  read = rw means refl;
  comes = sym (is_some_op comparisons t)
      ∙ ap is_some means;
}
compares None t rest means = sym (is_some_op comparisons t) ∙ ap is_some means

pub compares_next : (found : Option Op) (t : Token) (tokens : List Token) → tokens ≡ t ∷ drop 1 tokens → found
    ≡ op_of comparisons t
    → MatchOption found (begins_with (is_of comparisons) tokens ≡ false) (λ o. IsCompared o tokens)
compares_next found t tokens next means =
    subst (λ (ts : List Token). MatchOption found (begins_with (is_of comparisons) ts ≡ false) (λ o. IsCompared o ts))
    (sym next) (compares found t (drop 1 tokens) (sym means))
