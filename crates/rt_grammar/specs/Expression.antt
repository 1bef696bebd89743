-- Expressions. From the weakest operators to the strongest:
--   Expr = Or [ ("==" | "!=" | "<" | "<=" | ">" | ">=") Or ]     Or = Xor { "|" Xor }     Xor = And { "^" And }
--   And = Shift { "&" Shift }     Shift = Add { ("<<" | ">>") Add }     Add = Mul { ("+" | "-") Mul }
--   Mul = Atom { ("*" | "/" | "%") Atom }     Atom = Num | Name | "(" Expr ")"
use Rattle.std.specs.Prelude.{◌≡◌, ℕ, zero, suc, Bool, true, false, nat_lt, nat_le, if◌then◌else◌}
use Rattle.std.specs.Prelude.{codes, List, [], ◌∷◌, Option, Some, None}
use Rattle.rt_ids.specs.declared.op.Op.{Op}
use Rattle.rt_ids.specs.declared.op.Op.TheVariants as op
use Rattle.rt_ids.specs.declared.limit.Limit.TheVariants as limit
use Rattle.rt_ids.specs.declared.limits.TheConstants.{PARENTHESES, DEPTH}
use Rattle.rt_lex.specs.Token.{Token, is_this_sign}
use Rattle.rt_ast.specs.Tree.{Expression, Num, Read, Oper, depth_of}
use Rattle.rt_grammar.specs.Mark.{Ends}
use Rattle.rt_grammar.specs.Language.{Language, gives, ◌>>=◌, ◌>>◌, ◌or◌, token, repeat}
use Rattle.rt_grammar.specs.Tokens.{free, limit_if, name, number, sign, limited_sign}

-- an expression, and the offset of its first token
pub record Operand : Type 0 where
  pub at : ℕ
  pub tree : Expression

-- the operators of one strength, each with its sign
abbrev pub Signs : Type 0
Signs = List (List ℕ × Op)

-- the operator that a token is, of these
abbrev pub op_of : Signs → Token → Option Op
op_of [] t = None
op_of (x ∷ signs) t = if is_this_sign x.0 t then Some x.1 else op_of signs t

-- one of these operators
abbrev pub operator : Signs → Language Op
operator signs = token (op_of signs) (λ _. free)

-- the operators that compare, which are the weakest
abbrev pub comparisons : Signs
comparisons =
    (codes "==", op.Eq) ∷ (codes "!=", op.Ne)
    ∷ (codes "<", op.Lt) ∷ (codes "<=", op.Le) ∷ (codes ">", op.Gt) ∷ (codes ">=", op.Ge) ∷ []

-- the other operators, the weakest first
abbrev pub strengths : List Signs
strengths =
    ((codes "|", op.Or) ∷ []) ∷ ((codes "^", op.Xor) ∷ []) ∷ ((codes "&", op.And) ∷ [])
    ∷ ((codes "<<", op.Shl) ∷ (codes ">>", op.Shr) ∷ [])
    ∷ ((codes "+", op.Add) ∷ (codes "-", op.Sub) ∷ [])
    ∷ ((codes "*", op.Mul) ∷ (codes "/", op.Div) ∷ (codes "%", op.Rem) ∷ []) ∷ []

-- an operation on two operands, which begins where the left one does
abbrev pub joined_operand : Op → Operand → Operand → Operand
joined_operand o left right = record { at = left.at; tree = Oper o left.tree right.tree }

-- operands with operators of one strength between them, which group to the left
abbrev pub chain : Signs → Language Operand → Language Operand
chain signs operand = do
  first ← operand
  repeat (λ left. do o ← operator signs; right ← operand; gives (joined_operand o left right)) first

-- operands with operators of these strengths between them, the weakest outermost
abbrev pub chains : List Signs → Language Operand → Language Operand
chains [] atom = atom
chains (signs ∷ stronger) atom = chain signs (chains stronger atom)

-- at most one comparison; how the form ends depends on whether there is one
abbrev pub comparison : {A : Type 0} → Language Operand → (Operand → Bool → Language A) → Language A
comparison atom ended = do
  left ← chains strengths atom
  ended left false or (do
    o ← operator comparisons
    right ← chains strengths atom
    ended (joined_operand o left right) true)

-- a number or a name
abbrev pub plain_atom : Language Operand
plain_atom =
    (do n ← number; gives (record { at = n.at; tree = Num n.value }))
    or (do x ← name; gives (record { at = x.at; tree = Read x }))

-- an atom with at most so many parentheses inside each other, itself inside so many
abbrev pub atom : ℕ → ℕ → Language Operand
atom zero opened = plain_atom
atom (suc most) opened = plain_atom or (do
  at ← limited_sign (codes "(") (limit_if (nat_le PARENTHESES opened) limit.Parentheses)
  inner ← comparison (atom most (suc opened)) (λ e compares. gives e)
  sign (codes ")")
  gives (record { at = at; tree = inner.tree }))

-- the end of an expression that is part of no other
abbrev pub ends : Operand × Bool → Language Expression
ends e marks tree =
    (marks ≡ Ends e.1 (if nat_lt DEPTH (depth_of e.0.tree) then Some e.0.at else None) ∷ []) × (tree ≡ e.0.tree)

-- an expression that is part of no other, with at most so many parentheses inside each other
abbrev pub expression : ℕ → Language Expression
expression most = comparison (atom most 0) (λ e compares. ends (e, compares))
