-- A statement that holds blocks, seen from the lists of their statements.
use Rattle.std.proofs.Common.{◌≡◌, ℕ, Vec, Global, refl, ap, ◌∙◌}
use mathlib.Core.Former.{Count}
use Rattle.rt_app.specs.Tree as tree
use Rattle.rt_app.specs.View.{expression_of, statement_of, row_block, block_of}
use Rattle.rt_app.specs.declared.expr.Expr.{Expr}
use Rattle.rt_app.specs.declared.stmt.Stmt.{Stmt, Row_of-Stmt, end_of-Stmt, more_of-Stmt, Branch, Repeat, Locked}
use Rattle.rt_app.specs.declared.stmt.Stmt.{Locked', items-the_row-Stmt, items_hidden-the_row-Stmt-0}

row_is : (n : _) (row : Row_of-Stmt n) → row_block row ≡ block_of (items-the_row-Stmt n row)
row_is n end_of-Stmt = refl
row_is n (more_of-Stmt s rest) = ap (tree.Then (statement_of s)) (row_is _ rest)

abbrev row_of : Stmt → (n : Count) × Row_of-Stmt n
row_of (Locked' _ _ row _) = (_, row)
row_of _ = (_, end_of-Stmt)

-- the statements of a block of the code
hidden : (r : ℕ) (v : Vec Stmt Global) → row_block (row_of (Locked r v 0)).1 ≡ block_of v.items
hidden r v = let row = row_of (Locked r v 0) in row_is row.0 row.1 ∙ ap block_of (items_hidden-the_row-Stmt-0 v)

pub locked_is : (r : ℕ) (v : Vec Stmt Global) (at : ℕ) → statement_of (Locked r v at)
    ≡ tree.Locked r (block_of v.items) at
locked_is r v at = ap (λ b. tree.Locked r b at) (hidden r v)

pub repeat_is : (x first last : ℕ) (v : Vec Stmt Global) → statement_of (Repeat x first last v)
    ≡ tree.Repeat x first last (block_of v.items)
repeat_is x first last v = ap (tree.Repeat x first last) (hidden x v)

pub branch_is : (e : Expr) (v w : Vec Stmt Global) → statement_of (Branch e v w)
    ≡ tree.Branch (expression_of e) (block_of v.items) (block_of w.items)
branch_is e v w = ap (λ b. tree.Branch (expression_of e) b (row_block (row_of (Locked 0 w 0)).1)) (hidden 0 v)
    ∙ ap (tree.Branch (expression_of e) (block_of v.items)) (hidden 0 w)
