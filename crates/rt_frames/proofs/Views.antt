-- A statement of the code that holds blocks, as the statement of the definitions.
use Rattle.std.proofs.Common.{◌≡◌, ℕ, List, Vec, Global, sym, ap, ◌∙◌}
use Rattle.rt_app.specs.Tree as tree
use Rattle.rt_app.specs.View.{expression_of, statement_of, block_of}
use Rattle.rt_app.specs.declared.expr.Expr.{Expr}
use Rattle.rt_app.specs.declared.stmt.Stmt.{Stmt, Branch, Repeat, Locked}
use Rattle.rt_app.proofs.Statements.{branch_is, repeat_is, locked_is}

pub branch_at : (s : Stmt) (e : Expr) (v w : Vec Stmt Global) (first second : List Stmt) → s ≡ Branch e v w → first
    ≡ v.items → second ≡ w.items
    → statement_of s ≡ tree.Branch (expression_of e) (block_of first) (block_of second)
branch_at s e v w first second is f g =
    ap statement_of is ∙ branch_is e v w ∙ ap (λ b. tree.Branch (expression_of e) (block_of b) (block_of w.items))
    (sym f) ∙ ap (λ b. tree.Branch (expression_of e) (block_of first) (block_of b)) (sym g)

pub repeat_at : (s : Stmt) (x first last : ℕ) (v : Vec Stmt Global) (turn : List Stmt) → s ≡ Repeat x first last v
    → turn ≡ v.items → statement_of s ≡ tree.Repeat x first last (block_of turn)
repeat_at s x first last v turn is f = ap statement_of is ∙ repeat_is x first last v
    ∙ ap (λ b. tree.Repeat x first last (block_of b)) (sym f)

pub locked_at : (s : Stmt) (r : ℕ) (v : Vec Stmt Global) (at : ℕ) (inner : List Stmt) → s ≡ Locked r v at → inner
    ≡ v.items → statement_of s ≡ tree.Locked r (block_of inner) at
locked_at s r v at inner is f = ap statement_of is ∙ locked_is r v at ∙ ap (λ b. tree.Locked r (block_of b) at) (sym f)
