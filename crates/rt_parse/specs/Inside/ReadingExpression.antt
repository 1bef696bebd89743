-- The readers of expressions. An expression that is too deep is read on, and no tree of it is kept.
use Rattle.std.specs.Prelude.{ℕ, zero, suc, Bool, true, false, codes, List, [], ◌∷◌, length, Option, Some, None, Ok}
use Rattle.std.specs.Prelude.{Err, if◌then◌else◌}
use Rattle.rt_ids.specs.declared.op.Op.{Op}
use Rattle.rt_ids.specs.declared.limit.Limit.TheVariants as limit
use Rattle.rt_ids.specs.declared.limits.TheConstants.{PARENTHESES}
use Rattle.rt_ids.specs.declared.refusal.Refusal.TheVariants as refusal
use Rattle.rt_lex.specs.declared.token.Kind.{Kind}
use Rattle.rt_lex.specs.declared.token.Kind.TheVariants as kind
use Rattle.rt_lex.specs.Token.{Token}
use Rattle.rt_ast.specs.Tree.{Expression, Num, Read}
use Rattle.rt_grammar.specs.Tokens.{free}
use Rattle.rt_grammar.specs.Expression.{Signs, comparisons, strengths, op_of}
use Rattle.rt_grammar.specs.Reach.{is_of}
use Rattle.rt_parse.specs.Inside.Reading.{Reader, ◌>>=◌, token_at, repeat_at, begins_with, fault_found_at}
use Rattle.rt_parse.specs.Inside.Reading.{limited_sign_at}
use Rattle.rt_parse.specs.Inside.Reading.{sign_at, name_at, number_at}
use Rattle.rt_parse.specs.Inside.ReadingDepth.{Kept, Measured, joined_measure, atomic}

-- one of these operators
unfoldable pub operator_at : Signs → Reader Op
operator_at signs tokens = token_at (op_of signs) (λ _. free) tokens

-- one more operator and its operand
unfoldable pub joined_operand_at : Signs → Reader Measured → Measured → Reader Measured
joined_operand_at signs operand left tokens = do
  o ← operator_at signs tokens
  right ← operand o.1
  Ok (joined_measure o.0 left right.0, right.1)

-- operands with operators of one strength between them
unfoldable pub chain_at : Signs → Reader Measured → Reader Measured
chain_at signs operand tokens = do
  first ← operand tokens
  repeat_at (is_of signs) (joined_operand_at signs operand) (length first.1) first.0 first.1

-- operands with operators of these strengths between them, the weakest outermost
unfoldable pub chains_at : List Signs → Reader Measured → Reader Measured
chains_at [] atom tokens = atom tokens
chains_at (signs ∷ stronger) atom tokens = chain_at signs (chains_at stronger atom) tokens

-- the comparison after its left side, or none
abbrev pub comparison_tail_at : Reader Measured → Measured → Reader Measured
comparison_tail_at operand left tokens =
    if begins_with (is_of comparisons) tokens then joined_operand_at comparisons operand left tokens else Ok
    (left, tokens)

-- an expression: one side, and perhaps a comparison
unfoldable pub comparison_at : Reader Measured → Reader Measured
comparison_at atom tokens = do
  left ← chains_at strengths atom tokens
  comparison_tail_at (chains_at strengths atom) left.0 left.1

-- whether a token of this kind is a number
abbrev pub is_number_kind : Kind → Bool
is_number_kind kind.Num = true
is_number_kind other = false

-- whether a token is a number
abbrev pub is_number : Token → Bool
is_number t = is_number_kind t.kind

-- whether a token of this kind is a name
abbrev pub is_name_kind : Kind → Bool
is_name_kind kind.Name = true
is_name_kind other = false

-- whether a token is a name
abbrev pub is_name : Token → Bool
is_name t = is_name_kind t.kind

-- a number as an expression
unfoldable pub number_atom_at : Reader Measured
number_atom_at tokens = do
  n ← number_at tokens
  Ok (atomic n.0.at (Num n.0.value), n.1)

-- a name as an expression
unfoldable pub name_atom_at : Reader Measured
name_atom_at tokens = do
  x ← name_at tokens
  Ok (atomic x.0.at (Read x.0), x.1)

-- an expression in parentheses, read so
unfoldable pub parenthesized_expression_at : Reader Measured → Reader Measured
parenthesized_expression_at inner tokens = do
  at ← sign_at (codes "(") tokens
  e ← inner at.1
  b ← sign_at (codes ")") e.1
  Ok (record { at = at.0; kept = e.0.kept }, b.1)

-- where no more parentheses may be opened
unfoldable pub refused_parenthesis_at : Reader Measured
refused_parenthesis_at tokens = do
  at ← limited_sign_at (codes "(") (Some limit.Parentheses) tokens
  Err (fault_found_at at.1)

-- a number or a name, or else what this reads
unfoldable pub atom_or_at : Reader Measured → Reader Measured
atom_or_at nested tokens =
    if begins_with is_number tokens then number_atom_at tokens
    else if begins_with is_name tokens then name_atom_at tokens
    else nested tokens

-- an expression in parentheses, where so many may be opened
unfoldable pub nested_expression_at : ℕ → Reader Measured
nested_expression_at zero tokens = refused_parenthesis_at tokens
nested_expression_at (suc more) tokens = parenthesized_expression_at
    (comparison_at (atom_or_at (nested_expression_at more))) tokens

-- an atom, where so many parentheses may be opened
abbrev pub atom_at : ℕ → Reader Measured
atom_at more = atom_or_at (nested_expression_at more)

-- the tree of an expression, or that it is too deep
abbrev pub unless_deep : ℕ → Option Kept → Reader Expression
unless_deep at (Some k) tokens = Ok (k.tree, tokens)
unless_deep at None tokens = Err (record { at = Some at; refusal = refusal.Limit limit.Depth })

-- an expression that is part of no other
unfoldable pub expression_at : Reader Expression
expression_at tokens = do
  e ← comparison_at (atom_at PARENTHESES) tokens
  unless_deep e.0.at e.0.kept e.1
