-- A climb over operators of all strengths at once reads what the strengths read, each of which knows its own strength
-- alone.
use Rattle.std.proofs.Common.{◌≡◌, ℕ, zero, suc, ◌≤◌, Bool, true, false, cond, List, [], ◌∷◌, ◌++◌, length, Result, Ok}
use Rattle.std.proofs.Common.{Err, refl, sym, ap, subst, ◌∙◌, arith}
use Rattle.rt_lemmas.proofs.Bools.{or_neither, both_of_none}
use Rattle.rt_lex.specs.Token.{Token}
use Rattle.rt_grammar.specs.Expression.{Signs}
use Rattle.rt_grammar.specs.Reach.{is_of}
use Rattle.rt_parse.specs.Inside.Reading.{Reader, ◌>>=◌, repeat_at, begins_with}
use Rattle.rt_parse.specs.Inside.ReadingDepth.{Measured, joined_measure}
use Rattle.rt_parse.specs.Inside.ReadingExpression.{operator_at, joined_operand_at, chain_at, chains_at}
use Rattle.rt_parse.specs.Inside.ExpressionView.{is_of_some}
use Rattle.rt_parse.specs.declared.stop.Found.{Found}
use Rattle.rt_parse.proofs.ExactLaws.{read_then}
use Rattle.rt_parse.proofs.Loops.{turn}
use Rattle.rt_parse.proofs.Shorter.{IsShorter, bind_ok, same_rest}
use Rattle.rt_parse.proofs.ShorterExpression.{shorter_joined, shorter_chains}

right_same : {A : Type 0} (r : Result (A × List Token) Found) → (r >>= λ x. Ok (x.0, x.1)) ≡ r
right_same (Ok x) = refl
right_same (Err e) = refl

bind_same : {A B E : Type 0} (r : Result A E) (f g : A → Result B E) → ((x : A) → r ≡ Ok x → f x ≡ g x) → (r >>= f)
    ≡ (r >>= g)
bind_same (Ok x) f g same = same x refl
bind_same (Err e) f g same = refl

-- Whether a token of some strength comes next.

none_of_both : (signs : Signs) (stronger : List Signs) (tokens : List Token)
    → begins_with (is_of_some (signs ∷ stronger)) tokens ≡ false
    → (begins_with (is_of signs) tokens ≡ false) × (begins_with (is_of_some stronger) tokens ≡ false)
none_of_both signs stronger [] e = (refl, refl)
none_of_both signs stronger (t ∷ tokens) e = both_of_none (is_of signs t) (is_of_some stronger t) e

none_of_either : (signs : Signs) (stronger : List Signs) (tokens : List Token) → begins_with (is_of signs) tokens
    ≡ false → begins_with (is_of_some stronger) tokens ≡ false
    → begins_with (is_of_some (signs ∷ stronger)) tokens ≡ false
none_of_either signs stronger [] e f = refl
none_of_either signs stronger (t ∷ tokens) e f = or_neither (is_of signs t) (is_of_some stronger t) e f

none_of_none : (tokens : List Token) → begins_with (is_of_some []) tokens ≡ false
none_of_none [] = refl
none_of_none (t ∷ tokens) = refl

-- Repeated steps.

repeat_closed : {S : Type 0} (starts : Token → Bool) (step : S → Reader S) (n : ℕ) (s : S) (tokens : List Token)
    → begins_with starts tokens ≡ false
    → repeat_at starts step n s tokens ≡ Ok (s, tokens)
unfolding repeat_at
repeat_closed starts step zero s tokens e = refl
repeat_closed starts step (suc n) s tokens e = rw e refl

module _ {S : Type 0} (starts : Token → Bool) (step : S → Reader S) (shorter : (s : S) → IsShorter (step s)) where
  -- more turns than tokens make no difference
  repeat_enough : (m n : ℕ) (s : S) (tokens : List Token) → length tokens ≤ m → length tokens ≤ n
      → repeat_at starts step m s tokens ≡ repeat_at starts step n s tokens
  unfolding repeat_at
  repeat_enough m n s [] e f = repeat_closed starts step m s [] refl ∙ sym (repeat_closed starts step n s [] refl)
  repeat_enough zero n s (t ∷ tokens) e f = absurd (omega arith)
  repeat_enough (suc m) zero s (t ∷ tokens) e f = absurd (omega arith)
  repeat_enough (suc m) (suc n) s (t ∷ tokens) e f =
      ap (λ (r : Result (S × List Token) Found). cond (starts t) r (Ok (s, t ∷ tokens)))
      (bind_same (step s (t ∷ tokens)) (λ x. repeat_at starts step m x.0 x.1) (λ x. repeat_at starts step n x.0 x.1)
      (λ x is. let less = shorter s (t ∷ tokens) x.0 x.1 is in repeat_enough m n x.0 x.1 (omega (arith, less, e))
      (omega (arith, less, f))))

  -- it ends where no further step begins, and where no such token comes next with which no step ends
  repeat_ends : (test : Token → Bool) → ((s : S) (tokens : List Token) (y : S) (rest : List Token) → step s tokens
      ≡ Ok (y, rest) → begins_with test rest ≡ false)
      → (n : ℕ) (s : S) (tokens : List Token) → length tokens ≤ n → begins_with test tokens ≡ false
      → (y : S) (rest : List Token) → repeat_at starts step n s tokens ≡ Ok (y, rest)
      → (begins_with test rest ≡ false) × (begins_with starts rest ≡ false)
  unfolding repeat_at
  repeat_ends test ends n s [] enough none y rest e =
      let same = same_rest s y [] rest (sym (repeat_closed starts step n s [] refl) ∙ e) in
      subst (λ (ts : List Token). (begins_with test ts ≡ false) × (begins_with starts ts ≡ false)) same (refl, refl)
  repeat_ends test ends zero s (t ∷ tokens) enough none y rest e = absurd (omega arith)
  repeat_ends test ends (suc n) s (t ∷ tokens) enough none y rest e =
      by_test (starts t) refl e (λ x is. let less = shorter s (t ∷ tokens) x.0 x.1 is in
      repeat_ends test ends n x.0 x.1 (omega (arith, less, enough)) (ends s (t ∷ tokens) x.0 x.1 is) y rest)
    where
      by_test : (b : Bool) → starts t ≡ b → cond b (step s (t ∷ tokens) >>= λ x. repeat_at starts step n x.0 x.1)
          (Ok (s, t ∷ tokens)) ≡ Ok (y, rest)
          → ((x : S × List Token) → step s (t ∷ tokens) ≡ Ok x → repeat_at starts step n x.0 x.1 ≡ Ok (y, rest)
          → (begins_with test rest ≡ false) × (begins_with starts rest ≡ false))
          → (begins_with test rest ≡ false) × (begins_with starts rest ≡ false)
      by_test true is e later =
          let p = bind_ok (step s (t ∷ tokens)) (λ x. repeat_at starts step n x.0 x.1) (y, rest) e in
          later p.0 p.1 p.2
      by_test false is e later =
          subst (λ (ts : List Token). (begins_with test ts ≡ false) × (begins_with starts ts ≡ false))
          (same_rest s y (t ∷ tokens) rest e) (none, is)

-- What the strengths read after their first atom.

abbrev chain_on : Signs → List Signs → Reader Measured → Measured × List Token → Result (Measured × List Token) Found
chain_on signs stronger atom x = repeat_at (is_of signs) (joined_operand_at signs (chains_at stronger atom))
    (length x.1) x.0 x.1

unfoldable pub behind_at : List Signs → Reader Measured → Measured → Reader Measured
behind_at [] atom left tokens = Ok (left, tokens)
behind_at (signs ∷ stronger) atom left tokens = behind_at stronger atom left tokens >>= chain_on signs stronger atom

pub chains_behind : (all : List Signs) (atom : Reader Measured) (tokens : List Token) → chains_at all atom tokens
    ≡ (atom tokens >>= λ x. behind_at all atom x.0 x.1)
unfolding chains_at chain_at behind_at
chains_behind [] atom tokens = sym (right_same (atom tokens))
chains_behind (signs ∷ stronger) atom tokens =
    ap (λ r. r >>= chain_on signs stronger atom) (chains_behind stronger atom tokens)
    ∙ read_then (atom tokens) (λ x. behind_at stronger atom x.0 x.1) (chain_on signs stronger atom)

-- nothing where no operator of theirs comes next
pub closed_behind : (all : List Signs) (atom : Reader Measured) (left : Measured) (tokens : List Token)
    → begins_with (is_of_some all) tokens ≡ false
    → behind_at all atom left tokens ≡ Ok (left, tokens)
unfolding behind_at
closed_behind [] atom left tokens e = refl
closed_behind (signs ∷ stronger) atom left tokens e =
    let p = none_of_both signs stronger tokens e in
    ap (λ r. r >>= chain_on signs stronger atom) (closed_behind stronger atom left tokens p.1)
    ∙ repeat_closed _ _ (length tokens) left tokens p.0

joined_ends : (signs : Signs) (operand : Reader Measured) (left : Measured) (tokens : List Token) (y : Measured)
    (rest : List Token) → joined_operand_at signs operand left tokens ≡ Ok (y, rest)
    → (mid : List Token) × (right : Measured) × (operand mid ≡ Ok (right, rest))
unfolding joined_operand_at
joined_ends signs operand left tokens y rest e =
    let p = bind_ok (operator_at signs tokens) (λ o. operand o.1 >>= λ right. Ok
    (joined_measure o.0 left right.0, right.1)) (y, rest) e in
    let q = bind_ok (operand p.0.1) (λ right. Ok (joined_measure p.0.0 left right.0, right.1)) (y, rest) p.2 in
    (p.0.1, q.0.0, q.1 ∙ ap (λ (ts : List Token). Ok (q.0.0, ts)) (same_rest _ y q.0.1 rest q.2))

-- after what strengths read no operator of theirs comes next
chains_end : (all : List Signs) (atom : Reader Measured) → IsShorter atom
    → (tokens : List Token) (x : Measured) (rest : List Token) → chains_at all atom tokens ≡ Ok (x, rest)
    → begins_with (is_of_some all) rest ≡ false
unfolding chains_at chain_at
chains_end [] atom h tokens x rest e = none_of_none rest
chains_end (signs ∷ stronger) atom h tokens x rest e =
    let p = bind_ok (chains_at stronger atom tokens) (chain_on signs stronger atom) (x, rest) e in
    let q = repeat_ends (is_of signs) (joined_operand_at signs (chains_at stronger atom))
    (λ left. shorter_joined signs (chains_at stronger atom) left (shorter_chains stronger atom h))
    (is_of_some stronger)
    (λ left ts y behind is. let j = joined_ends signs (chains_at stronger atom) left ts y behind is in
    chains_end stronger atom h j.0 j.1 behind j.2)
    (length p.0.1) p.0.0 p.0.1 (omega arith) (chains_end stronger atom h tokens p.0.0 p.0.1 p.1) x rest p.2 in
    none_of_either signs stronger rest q.1 q.0

-- An operator that comes next is read with its right side, and all strengths go on after it.

own_goes_on : (signs : Signs) (stronger : List Signs) (atom : Reader Measured) (left : Measured) (tokens : List Token)
    → IsShorter atom
    → begins_with (is_of signs) tokens ≡ true → begins_with (is_of_some stronger) tokens ≡ false
    → behind_at (signs ∷ stronger) atom left tokens
    ≡ (joined_operand_at signs (chains_at stronger atom) left tokens >>= λ x. behind_at (signs ∷ stronger) atom x.0
    x.1)
unfolding behind_at
own_goes_on signs stronger atom left [] h comes none = absurd cc
own_goes_on signs stronger atom left (t ∷ tokens) h comes none =
    ap (λ r. r >>= chain_on signs stronger atom) (closed_behind stronger atom left (t ∷ tokens) none)
    ∙ turn (is_of signs) step (length tokens) left (t ∷ tokens) (step left (t ∷ tokens)) comes refl
    ∙ bind_same (step left (t ∷ tokens)) (λ x. repeat_at (is_of signs) step (length tokens) x.0 x.1)
    (λ x. behind_at stronger atom x.0 x.1 >>= chain_on signs stronger atom) same
  where
    step : Measured → Reader Measured
    step = joined_operand_at signs (chains_at stronger atom)

    shorter : (s : Measured) → IsShorter (joined_operand_at signs (chains_at stronger atom) s)
    shorter s = shorter_joined signs (chains_at stronger atom) s (shorter_chains stronger atom h)

    same : (x : Measured × List Token) → joined_operand_at signs (chains_at stronger atom) left (t ∷ tokens) ≡ Ok x
        → repeat_at (is_of signs) (joined_operand_at signs (chains_at stronger atom)) (length tokens) x.0 x.1
        ≡ (behind_at stronger atom x.0 x.1 >>= chain_on signs stronger atom)
    same x is =
        let less = shorter left (t ∷ tokens) x.0 x.1 is in
        let j = joined_ends signs (chains_at stronger atom) left (t ∷ tokens) x.0 x.1 is in
        repeat_enough (is_of signs) (joined_operand_at signs (chains_at stronger atom)) shorter (length tokens)
        (length x.1) x.0 x.1 (omega (arith, less)) (omega arith)
        ∙ ap (λ r. r >>= chain_on signs stronger atom)
        (sym (closed_behind stronger atom x.0 x.1 (chains_end stronger atom h j.0 j.1 x.1 j.2)))

weaker_goes_on : (weaker all : List Signs) (atom : Reader Measured) (left : Measured) (tokens : List Token)
    (step : Result (Measured × List Token) Found)
    → behind_at all atom left tokens ≡ (step >>= λ x. behind_at all atom x.0 x.1)
    → behind_at (weaker ++ all) atom left tokens ≡ (step >>= λ x. behind_at (weaker ++ all) atom x.0 x.1)
unfolding behind_at
weaker_goes_on [] all atom left tokens step e = e
weaker_goes_on (signs ∷ weaker) all atom left tokens step e =
    ap (λ r. r >>= chain_on signs (weaker ++ all) atom) (weaker_goes_on weaker all atom left tokens step e)
    ∙ read_then step (λ x. behind_at (weaker ++ all) atom x.0 x.1) (chain_on signs (weaker ++ all) atom)

-- of an operator of one of the strengths
pub goes_on : (weaker : List Signs) (signs : Signs) (stronger : List Signs) (atom : Reader Measured) (left : Measured)
    (tokens : List Token) → IsShorter atom
    → begins_with (is_of signs) tokens ≡ true → begins_with (is_of_some stronger) tokens ≡ false
    → behind_at (weaker ++ signs ∷ stronger) atom left tokens
    ≡ (joined_operand_at signs (chains_at stronger atom) left tokens >>= λ x. behind_at (weaker ++ signs ∷ stronger)
    atom x.0 x.1)
goes_on weaker signs stronger atom left tokens h comes none =
    weaker_goes_on weaker (signs ∷ stronger) atom left tokens
    (joined_operand_at signs (chains_at stronger atom) left tokens)
    (own_goes_on signs stronger atom left tokens h comes none)
