-- What the parser of expressions keeps, as the readers' values, and which operators it looks ahead for.
use Rattle.std.specs.Prelude.{◌≡◌, Bool, true, false, List, [], ◌∷◌, Option, Some, None, Ok, codes, drop}
use Rattle.std.specs.List.{list_any}
use Rattle.rt_ids.specs.declared.op.Op.{Op}
use Rattle.rt_ids.specs.declared.op.Op.TheVariants as op
use Rattle.rt_ast.specs.View.{expression_of}
use Rattle.rt_lex.specs.Token.{Token}
use Rattle.rt_grammar.specs.Expression.{Signs, op_of, comparisons, strengths}
use Rattle.rt_grammar.specs.Reach.{is_of}
use Rattle.rt_parse.specs.Inside.Reading.{begins_with}
use Rattle.rt_parse.specs.Inside.ReadingExpression.{operator_at}
use Rattle.rt_parse.specs.Inside.ReadingDepth as reading
use Rattle.rt_parse.specs.declared.expression.Kept.{Kept}
use Rattle.rt_parse.specs.declared.expression.Measured.{Measured}
use Rattle.rt_parse.specs.declared.expression.Strength.{Strength}
use Rattle.rt_parse.specs.declared.expression.Strength.TheVariants as strength

-- a tree with its depth
abbrev pub kept_view : Kept → reading.Kept
kept_view k = record { tree = expression_of k.tree.value; depth = k.depth }

-- a tree with its depth, where it is kept
abbrev pub kept_option : Option Kept → Option reading.Kept
kept_option None = None
kept_option (Some k) = Some (kept_view k)

-- an expression as it is read
abbrev pub measured_view : Measured → reading.Measured
measured_view m = record { at = m.at; kept = kept_option m.kept }

-- the operators of a strength
abbrev pub signs_of : Strength → Signs
signs_of strength.Or = (codes "|", op.Or) ∷ []
signs_of strength.Xor = (codes "^", op.Xor) ∷ []
signs_of strength.And = (codes "&", op.And) ∷ []
signs_of strength.Shift = (codes "<<", op.Shl) ∷ (codes ">>", op.Shr) ∷ []
signs_of strength.Sum = (codes "+", op.Add) ∷ (codes "-", op.Sub) ∷ []
signs_of strength.Product = (codes "*", op.Mul) ∷ (codes "/", op.Div) ∷ (codes "%", op.Rem) ∷ []
signs_of strength.Atom = []

-- the strengths from this one on, the weakest first
abbrev pub strengths_from : Strength → List Signs
strengths_from strength.Or = strengths
strengths_from strength.Xor = drop 1 strengths
strengths_from strength.And = drop 2 strengths
strengths_from strength.Shift = drop 3 strengths
strengths_from strength.Sum = drop 4 strengths
strengths_from strength.Product = drop 5 strengths
strengths_from strength.Atom = []

-- those that are stronger
abbrev pub stronger_than : Strength → List Signs
stronger_than s = drop 1 (strengths_from s)

-- whether a token is an operator of one of these strengths
abbrev pub is_of_some : List Signs → Token → Bool
is_of_some all t = list_any (λ signs. is_of signs t) all

-- the token is this operator of this strength, and of none that is stronger
pub record IsOperator (o : Op) (s : Strength) (t : Token) : Type 0 where
  pub means : op_of (signs_of s) t ≡ Some o
  pub strongest : is_of_some (stronger_than s) t ≡ false

-- this operator comes next
pub record IsAhead (o : Op) (s : Strength) (tokens : List Token) : Type 0 where
  pub read : operator_at (signs_of s) tokens ≡ Ok (o, drop 1 tokens)
  pub comes : begins_with (is_of (signs_of s)) tokens ≡ true
  pub strongest : begins_with (is_of_some (stronger_than s)) tokens ≡ false

-- this comparison comes next
pub record IsCompared (o : Op) (tokens : List Token) : Type 0 where
  pub read : operator_at comparisons tokens ≡ Ok (o, drop 1 tokens)
  pub comes : begins_with (is_of comparisons) tokens ≡ true
