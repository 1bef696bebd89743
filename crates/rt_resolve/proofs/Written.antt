-- A statement of the code that holds blocks, from the lists of their statements.
use Rattle.std.proofs.Common.{◌≡◌, ℕ, List, [], Vec, Global, sym, ap, ◌∙◌}
use Rattle.rt_ast.specs.Tree as tree
use Rattle.rt_ast.specs.View.{expression_of, statement_of, block_of}
use Rattle.rt_ast.specs.declared.ident.Ident.{Ident}
use Rattle.rt_ast.specs.declared.expr.Expr.{Expr}
use Rattle.rt_ast.specs.declared.stmt.Stmt.{Stmt, Branch, Repeat, Locked}
use Rattle.rt_ast.proofs.Statements.{branch_is, repeat_is, locked_is}

-- which name stands there is of no account
any_name : Ident
any_name = record { name = []; at = 0 }

pub branch_seen : (stmt : Stmt) (e : Expr) (v w : Vec Stmt Global) (first second : List Stmt) → stmt ≡ Branch e v w
    → first ≡ v.items → second ≡ w.items
    → statement_of stmt ≡ tree.Branch (expression_of e) (block_of first) (block_of second)
branch_seen stmt e v w first second is f g =
    ap statement_of is ∙ branch_is any_name e v w
    ∙ ap (λ (xs : List Stmt). tree.Branch (expression_of e) (block_of xs) (block_of w.items)) (sym f)
    ∙ ap (λ (xs : List Stmt). tree.Branch (expression_of e) (block_of first) (block_of xs)) (sym g)

pub repeat_seen : (stmt : Stmt) (x : Ident) (a b : ℕ) (v : Vec Stmt Global) (turn : List Stmt) → stmt ≡ Repeat x a b v
    → turn ≡ v.items → statement_of stmt ≡ tree.Repeat x a b (block_of turn)
repeat_seen stmt x a b v turn is f = ap statement_of is ∙ repeat_is x a b v
    ∙ ap (λ (xs : List Stmt). tree.Repeat x a b (block_of xs)) (sym f)

pub lock_seen : (stmt : Stmt) (x : Ident) (v : Vec Stmt Global) (inner : List Stmt) → stmt ≡ Locked x v → inner
    ≡ v.items → statement_of stmt ≡ tree.Locked x (block_of inner)
lock_seen stmt x v inner is f = ap statement_of is ∙ locked_is x v
    ∙ ap (λ (xs : List Stmt). tree.Locked x (block_of xs)) (sym f)
