-- A climb over the operators of the language: from a strength on, an operator that comes next is read with its right
-- side.
use Rattle.std.proofs.Common.{◌≡◌, ℕ, ◌≤◌, ◌-◌, true, false, List, [], ◌∷◌, ◌++◌, length, take, drop, Result, Ok}
use Rattle.std.proofs.Common.{refl, sym, ap, subst, ◌∙◌, arith}
use Rattle.std.proofs.lemmas.List.{take-append-drop, drop-drop}
use Rattle.rt_ids.specs.declared.op.Op.{Op}
use Rattle.rt_lex.specs.Token.{Token}
use Rattle.rt_grammar.specs.Expression.{Signs, strengths}
use Rattle.rt_grammar.specs.Reach.{is_of}
use Rattle.rt_parse.specs.Inside.Reading.{Reader, ◌>>=◌, Stops, begins_with}
use Rattle.rt_parse.specs.Inside.ReadingDepth.{Measured}
use Rattle.rt_parse.specs.Inside.ReadingExpression.{joined_operand_at, chains_at}
use Rattle.rt_parse.specs.Inside.ExpressionView.{signs_of, strengths_from, stronger_than, is_of_some, IsAhead}
use Rattle.rt_parse.specs.declared.expression.Strength.{Strength}
use Rattle.rt_parse.specs.declared.expression.Strength.TheVariants as strength
use Rattle.rt_parse.specs.declared.stop.Found.{Found}
use Rattle.rt_parse.specs.declared.stop.Stop.{Stop}
use Rattle.rt_parse.specs.declared.stop.Stop.TheVariants as stop
use Rattle.rt_parse.proofs.Shorter.{IsShorter}
use Rattle.rt_parse.proofs.Climb.{behind_at, chains_behind, closed_behind, goes_on}

strengths_from_are : (s : Strength) → strengths_from s ≡ drop (6 - length (strengths_from s)) strengths
strengths_from_are strength.Or = refl
strengths_from_are strength.Xor = refl
strengths_from_are strength.And = refl
strengths_from_are strength.Shift = refl
strengths_from_are strength.Sum = refl
strengths_from_are strength.Product = refl
strengths_from_are strength.Atom = refl

few_strengths_from : (s : Strength) → length (strengths_from s) ≤ 6
few_strengths_from strength.Or = omega arith
few_strengths_from strength.Xor = omega arith
few_strengths_from strength.And = omega arith
few_strengths_from strength.Shift = omega arith
few_strengths_from strength.Sum = omega arith
few_strengths_from strength.Product = omega arith
few_strengths_from strength.Atom = omega arith

none_of_atom : (tokens : List Token) → begins_with (is_of []) tokens ≡ false
none_of_atom [] = refl
none_of_atom (t ∷ tokens) = refl

-- a strength that has an operator is no atom's
own_first : (s : Strength) (tokens : List Token) → begins_with (is_of (signs_of s)) tokens ≡ true → strengths_from s
    ≡ signs_of s ∷ stronger_than s
own_first strength.Or tokens e = refl
own_first strength.Xor tokens e = refl
own_first strength.And tokens e = refl
own_first strength.Shift tokens e = refl
own_first strength.Sum tokens e = refl
own_first strength.Product tokens e = refl
own_first strength.Atom tokens e = let none = none_of_atom tokens in absurd cc

behind_weaker : (least s : Strength) → length (strengths_from s) ≤ length (strengths_from least)
    → drop (length (strengths_from least) - length (strengths_from s)) (strengths_from least) ≡ strengths_from s
behind_weaker least s most =
    let few = few_strengths_from least in
    ap (λ (all : List Signs). drop (length (strengths_from least) - length (strengths_from s)) all)
    (strengths_from_are least)
    ∙ drop-drop (length (strengths_from least) - length (strengths_from s)) (6 - length (strengths_from least))
    strengths
    ∙ ap (λ (n : ℕ). drop n strengths) (omega (arith, few, most))
    ∙ sym (strengths_from_are s)

-- the strengths from a strength on are weaker ones and those from a stronger one on
strengths_split : (least s : Strength) → length (strengths_from s) ≤ length (strengths_from least)
    → strengths_from least ≡ take (length (strengths_from least) - length (strengths_from s)) (strengths_from least)
    ++ strengths_from s
strengths_split least s most =
    sym (take-append-drop (length (strengths_from least) - length (strengths_from s)) (strengths_from least))
    ∙ ap (λ (all : List Signs). take (length (strengths_from least) - length (strengths_from s)) (strengths_from least)
    ++ all) (behind_weaker least s most)

climbs : (least : Strength) (o : Op) (s : Strength) (atom : Reader Measured) (left : Measured) (tokens : List Token)
    → IsShorter atom → IsAhead o s tokens → length (strengths_from s) ≤ length (strengths_from least)
    → behind_at (strengths_from least) atom left tokens
    ≡ (joined_operand_at (signs_of s) (chains_at (stronger_than s) atom) left tokens >>= λ x. behind_at
    (strengths_from least) atom x.0 x.1)
climbs least o s atom left tokens h ahead most =
    let weaker = take (length (strengths_from least) - length (strengths_from s)) (strengths_from least) in
    let split : strengths_from least ≡ weaker ++ signs_of s ∷ stronger_than s =
    strengths_split least s most ∙ ap (λ (all : List Signs). weaker ++ all) (own_first s tokens ahead.comes) in
    subst (λ (all : List Signs). behind_at all atom left tokens
    ≡ (joined_operand_at (signs_of s) (chains_at (stronger_than s) atom) left tokens >>= λ x. behind_at all atom x.0
    x.1))
    (sym split) (goes_on weaker (signs_of s) (stronger_than s) atom left tokens h ahead.comes ahead.strongest)

-- The steps of the climb.

abbrev Gave : Type 0
Gave = Result (Measured × List Token) Found

stops_first : (why : Stop) (r : Gave) (f : Measured × List Token → Gave) → Stops why r → Stops why (r >>= f)
stops_first stop.Memory r f e = tt
stops_first (stop.At found) r f e = ap (λ (q : Gave). q >>= f) e

pub begun : (least : Strength) (atom : Reader Measured) (tokens : List Token) (first : Measured) (rest : List Token)
    → atom tokens ≡ Ok (first, rest)
    → behind_at (strengths_from least) atom first rest ≡ chains_at (strengths_from least) atom tokens
begun least atom tokens first rest e =
    sym (chains_behind (strengths_from least) atom tokens
    ∙ ap (λ (r : Gave). r >>= λ x. behind_at (strengths_from least) atom x.0 x.1) e)

pub atom_stops : (why : Stop) (least : Strength) (atom : Reader Measured) (tokens : List Token)
    → Stops why (atom tokens) → Stops why (chains_at (strengths_from least) atom tokens)
atom_stops why least atom tokens e =
    subst (Stops why) (sym (chains_behind (strengths_from least) atom tokens))
    (stops_first why (atom tokens) (λ x. behind_at (strengths_from least) atom x.0 x.1) e)

module _ (least : Strength) (o : Op) (s : Strength) (atom : Reader Measured) (left : Measured) (tokens : List Token)
    (whole : Gave) where
  pub stepped : IsShorter atom → IsAhead o s tokens → length (strengths_from s) ≤ length (strengths_from least)
      → (both : Measured) (rest : List Token)
      → joined_operand_at (signs_of s) (chains_at (stronger_than s) atom) left tokens ≡ Ok (both, rest)
      → behind_at (strengths_from least) atom left tokens ≡ whole → behind_at (strengths_from least) atom both rest
      ≡ whole
  stepped h ahead most both rest e so =
      sym (climbs least o s atom left tokens h ahead most
      ∙ ap (λ (r : Gave). r >>= λ x. behind_at (strengths_from least) atom x.0 x.1) e) ∙ so

  pub step_stops : (why : Stop) → IsShorter atom → IsAhead o s tokens
      → length (strengths_from s) ≤ length (strengths_from least)
      → Stops why (joined_operand_at (signs_of s) (chains_at (stronger_than s) atom) left tokens)
      → behind_at (strengths_from least) atom left tokens ≡ whole → Stops why whole
  step_stops why h ahead most e so =
      subst (Stops why) (sym (climbs least o s atom left tokens h ahead most) ∙ so)
      (stops_first why (joined_operand_at (signs_of s) (chains_at (stronger_than s) atom) left tokens)
      (λ x. behind_at (strengths_from least) atom x.0 x.1) e)

pub ended : (least : Strength) (atom : Reader Measured) (left : Measured) (tokens : List Token) (whole : Gave)
    → begins_with (is_of_some (strengths_from least)) tokens ≡ false
    → behind_at (strengths_from least) atom left tokens ≡ whole → whole ≡ Ok (left, tokens)
ended least atom left tokens whole none so = sym so ∙ closed_behind (strengths_from least) atom left tokens none
