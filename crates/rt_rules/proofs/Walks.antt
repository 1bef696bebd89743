-- The statements of the code, and what the definitions say of them.
use Rattle.std.proofs.Common.{◌≡◌, ℕ, ◌+◌, ◌<◌, Bool, true, false, ◌||◌, List, [], ◌∷◌, ◌++◌, length, get_or, take}
use Rattle.std.proofs.Common.{flat_map, Vec, Global, refl, sym, ap, ◌∙◌}
use Rattle.std.specs.List.{list_any}
use Rattle.std.proofs.lemmas.List.Folds.{list_any-append}
use Rattle.rt_lemmas.proofs.Lists.{flat_map_next}
use Rattle.rt_app.specs.View.{statement_of, block_of}
use Rattle.rt_app.specs.declared.expr.Expr.{Expr}
use Rattle.rt_app.specs.declared.stmt.Stmt.{Stmt, Branch, Repeat, Locked}
use Rattle.rt_app.proofs.Statements.{branch_is, repeat_is, locked_is}
use Rattle.rt_app.specs.Use.{statement_loops, loops}

pub branch_loops : (stmt : Stmt) (e : Expr) (v w : Vec Stmt Global) (first second : List Stmt) → stmt ≡ Branch e v w
    → first ≡ v.items → second ≡ w.items
    → statement_loops (statement_of stmt) ≡ loops (block_of first) ++ loops (block_of second)
branch_loops stmt e v w first second is f g = ap (λ s. statement_loops (statement_of s)) is
    ∙ ap statement_loops (branch_is e v w) ∙ rw (f, g) refl

pub repeat_loops : (stmt : Stmt) (x a b : ℕ) (v : Vec Stmt Global) (turn : List Stmt) → stmt ≡ Repeat x a b v → turn
    ≡ v.items → statement_loops (statement_of stmt) ≡ x ∷ loops (block_of turn)
repeat_loops stmt x a b v turn is f = ap (λ s. statement_loops (statement_of s)) is
    ∙ ap statement_loops (repeat_is x a b v) ∙ rw f refl

pub locked_loops : (stmt : Stmt) (r : ℕ) (v : Vec Stmt Global) (at : ℕ) (inner : List Stmt) → stmt ≡ Locked r v at
    → inner ≡ v.items → statement_loops (statement_of stmt) ≡ loops (block_of inner)
locked_loops stmt r v at inner is f = ap (λ s. statement_loops (statement_of s)) is
    ∙ ap statement_loops (locked_is r v at) ∙ rw f refl

loops_are : (stmts : List Stmt) → loops (block_of stmts) ≡ flat_map (λ s. statement_loops (statement_of s)) stmts
loops_are [] = refl
loops_are (s ∷ stmts) = ap (λ xs. statement_loops (statement_of s) ++ xs) (loops_are stmts)

pub loops_more : (stmts : List Stmt) (i : ℕ) (x : Stmt) → i < length stmts → x ≡ get_or stmts i x
    → loops (block_of (take (i + 1) stmts)) ≡ loops (block_of (take i stmts)) ++ statement_loops (statement_of x)
loops_more stmts i x h e =
    loops_are (take (i + 1) stmts) ∙ flat_map_next (λ s. statement_loops (statement_of s)) stmts i x h e
    ∙ ap (λ xs. xs ++ statement_loops (statement_of x)) (sym (loops_are (take i stmts)))

or_behind : (a b c : Bool) → (b || (a || c)) ≡ ((a || b) || c)
or_behind true true c = refl
or_behind true false c = refl
or_behind false b c = refl

-- what is in when some were put in and then others
pub any_behind : (p : ℕ → Bool) (xs ys zs : List ℕ) (old mid new : Bool) → zs ≡ xs ++ ys → mid ≡ (list_any p xs || old)
    → new ≡ (list_any p ys || mid) → new ≡ (list_any p zs || old)
any_behind p xs ys zs old mid new e f g =
    g ∙ ap (λ b. list_any p ys || b) f ∙ or_behind (list_any p xs) (list_any p ys) old
    ∙ ap (λ b. b || old) (sym (list_any-append p xs ys) ∙ ap (list_any p) (sym e))

-- or one and then others
pub any_after_one : (p : ℕ → Bool) (x : ℕ) (ys zs : List ℕ) (old mid new : Bool) → zs ≡ x ∷ ys → mid ≡ (p x || old)
    → new ≡ (list_any p ys || mid) → new ≡ (list_any p zs || old)
any_after_one p x ys zs old mid new e f g =
    g ∙ ap (λ b. list_any p ys || b) f ∙ or_behind (p x) (list_any p ys) old
    ∙ ap (λ b. b || old) (ap (list_any p) (sym e))
