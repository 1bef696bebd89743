-- Variables that begin as 0, some and then others.
use Rattle.std.proofs.Common.{◌≡◌, ℕ, ◌+◌, ◌<◌, List, [], ◌∷◌, ◌++◌, get_or, length, take, replicate, refl, ap, ◌∙◌}
use Rattle.std.proofs.Common.{sym, arith, append_assoc}
use Rattle.std.proofs.lemmas.List.{replicate-append-replicate}
use Rattle.rt_app.specs.Tree.{Expression, Statement, Branch, Repeat, Locked, Block}
use Rattle.rt_app.specs.declared.stmt.Stmt.{Stmt}
use Rattle.rt_app.specs.View.{statement_of, block_of}
use Rattle.rt_app.specs.Variables.{variables, variables_in}
use Rattle.rt_frames.proofs.Sums.{block_more}

pub grown_by : (xs ys zs : List ℕ) (a b : ℕ) → ys ≡ xs ++ replicate a 0 → zs ≡ ys ++ replicate b 0
    → zs ≡ xs ++ replicate (a + b) 0
grown_by xs ys zs a b e f =
    f ∙ ap (λ (l : List ℕ). l ++ replicate b 0) e ∙ append_assoc xs (replicate a 0) (replicate b 0)
    ∙ ap (λ (l : List ℕ). xs ++ l) (replicate-append-replicate a b 0)

pub branch_zeros : (s : Statement) (e : Expression) (a b : Block) (xs ys zs : List ℕ) → s ≡ Branch e a b
    → ys ≡ xs ++ replicate (variables a) 0
    → zs ≡ ys ++ replicate (variables b) 0 → zs ≡ xs ++ replicate (variables_in s) 0
branch_zeros s e a b xs ys zs is f g = grown_by xs ys zs (variables a) (variables b) f g
    ∙ ap (λ (t : Statement). xs ++ replicate (variables_in t) 0) (sym is)

pub repeat_zeros : (s : Statement) (x first last : ℕ) (turn : Block) (xs ys zs : List ℕ)
    → s ≡ Repeat x first last turn → ys ≡ xs ++ 0 ∷ []
    → zs ≡ ys ++ replicate (variables turn) 0 → zs ≡ xs ++ replicate (variables_in s) 0
repeat_zeros s x first last turn xs ys zs is f g =
    grown_by xs ys zs 1 (variables turn) f g ∙ ap (λ (t : Statement). xs ++ replicate (variables_in t) 0) (sym is)

pub locked_zeros : (s : Statement) (r at : ℕ) (inner : Block) (xs zs : List ℕ) → s ≡ Locked r inner at
    → zs ≡ xs ++ replicate (variables inner) 0
    → zs ≡ xs ++ replicate (variables_in s) 0
locked_zeros s r at inner xs zs is g = g ∙ ap (λ (t : Statement). xs ++ replicate (variables_in t) 0) (sym is)

pub zeros_more : (all : List Stmt) (i : ℕ) (s : Stmt) (xs ys zs : List ℕ) → i < length all → s ≡ get_or all i s
    → ys ≡ xs ++ replicate (variables (block_of (take i all))) 0
    → zs ≡ ys ++ replicate (variables_in (statement_of s)) 0
    → zs ≡ xs ++ replicate (variables (block_of (take (i + 1) all))) 0
zeros_more all i s xs ys zs within is f g =
    grown_by xs ys zs _ _ f g
    ∙ ap (λ (n : ℕ). xs ++ replicate n 0)
    (sym (block_more variables variables_in ◌+◌ (λ t rest. refl) (λ a b c. omega arith) (λ t. omega arith) all i s
    within is))
