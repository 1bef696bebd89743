-- The canonical text of expressions and of lists, as bytes. One space is on each side of an operator and after each
-- comma, and no list ends with a comma. Numbers are decimal. An operand that is itself an operation is in parentheses.
use Rattle.std.specs.Prelude.{ℕ, codes, decimal, List, [], ◌∷◌, ◌++◌, flat_map}
use Rattle.rt_ids.specs.declared.op.Op.{Op}
use Rattle.rt_ids.specs.declared.op.Op.TheVariants as op
use Rattle.rt_ast.specs.declared.ident.Ident.{Ident}
use Rattle.rt_ast.specs.Tree.{Expression, Num, Read, Oper}

-- a line feed
abbrev pub newline : List ℕ
newline = 10 ∷ []

-- the rest of a list, after its first item
abbrev pub further : {A : Type 0} → (A → List ℕ) → List A → List ℕ
further text xs = flat_map (λ x. codes ", " ++ text x) xs

-- a list with a comma and a space between each two
abbrev pub separated_list : {A : Type 0} → (A → List ℕ) → List A → List ℕ
separated_list text [] = []
separated_list text (x ∷ xs) = text x ++ further text xs

-- the text of a name
abbrev pub name_text : Ident → List ℕ
name_text x = x.name

-- the text of a list of names
abbrev pub names_text : List Ident → List ℕ
names_text xs = separated_list name_text xs

-- the sign of an operation
abbrev pub sign_text : Op → List ℕ
sign_text op.Add = codes "+"
sign_text op.Sub = codes "-"
sign_text op.Mul = codes "*"
sign_text op.Div = codes "/"
sign_text op.Rem = codes "%"
sign_text op.And = codes "&"
sign_text op.Or = codes "|"
sign_text op.Xor = codes "^"
sign_text op.Shl = codes "<<"
sign_text op.Shr = codes ">>"
sign_text op.Eq = codes "=="
sign_text op.Ne = codes "!="
sign_text op.Lt = codes "<"
sign_text op.Le = codes "<="
sign_text op.Gt = codes ">"
sign_text op.Ge = codes ">="

-- an operation on two operands, whose texts these are
abbrev pub operation_text : Op → List ℕ → List ℕ → List ℕ
operation_text o left right = left ++ codes " " ++ sign_text o ++ codes " " ++ right

-- an expression as an operand: in parentheses where it is itself an operation
abbrev pub operand_text : Expression → List ℕ
operand_text (Num n) = decimal n
operand_text (Read x) = name_text x
operand_text (Oper o left right) = codes "(" ++ operation_text o (operand_text left) (operand_text right) ++ codes ")"

-- an expression that is no operand
abbrev pub expression_text : Expression → List ℕ
expression_text (Num n) = decimal n
expression_text (Read x) = name_text x
expression_text (Oper o left right) = operation_text o (operand_text left) (operand_text right)
