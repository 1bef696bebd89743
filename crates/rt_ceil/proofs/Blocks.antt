-- The spawns of statements and blocks of the code, one after the other.
use Rattle.std.proofs.Common.{◌≡◌, ℕ, ◌+◌, ◌<◌, List, [], ◌∷◌, ◌++◌, length, take, get_or, Vec, Global, refl, sym, ap}
use Rattle.std.proofs.Common.{◌∙◌, append_assoc}
use Rattle.std.specs.List.{fold}
use Rattle.std.proofs.lemmas.List.{take_more, append-nil}
use Rattle.std.proofs.lemmas.List.Sums.{fold-append}
use Rattle.rt_app.specs.Tree.{Spawn}
use Rattle.rt_app.specs.Spawned.{statement_spawns, spawns}
use Rattle.rt_app.specs.View.{statement_of, block_of}
use Rattle.rt_app.specs.declared.expr.Expr.{Expr}
use Rattle.rt_app.specs.declared.stmt.Stmt.{Stmt, Branch, Repeat, Locked}
use Rattle.rt_app.proofs.Statements.{branch_is, repeat_is, locked_is}

pub spawns-append : (xs ys : List Stmt) → spawns (block_of (xs ++ ys)) ≡ spawns (block_of xs) ++ spawns (block_of ys)
spawns-append [] ys = refl
spawns-append (s ∷ xs) ys = ap (λ (t : List Spawn). statement_spawns (statement_of s) ++ t) (spawns-append xs ys)
    ∙ sym (append_assoc (statement_spawns (statement_of s)) (spawns (block_of xs)) (spawns (block_of ys)))

pub spawns_more : (xs : List Stmt) (i : ℕ) (d : Stmt) → i < length xs → spawns (block_of (take (i + 1) xs))
    ≡ spawns (block_of (take i xs)) ++ statement_spawns (statement_of (get_or xs i d))
spawns_more xs i d h =
    ap (λ (t : List Stmt). spawns (block_of t)) (take_more xs i d h) ∙ spawns-append (take i xs) (get_or xs i d ∷ [])
    ∙ ap (λ (t : List Spawn). spawns (block_of (take i xs)) ++ t)
    (append-nil (statement_spawns (statement_of (get_or xs i d))))

-- a fold over the spawns of a block goes on over those of its next statement
pub folded_more : {T : Type 0} (f : T → Spawn → T) (t now next : T) (xs : List Stmt) (i : ℕ) (s : Stmt) → i < length xs
    → s ≡ get_or xs i s → now ≡ fold f t (spawns (block_of (take i xs)))
    → next ≡ fold f now (statement_spawns (statement_of s)) → next ≡ fold f t (spawns (block_of (take (i + 1) xs)))
folded_more f t now next xs i s h is before after =
    after ∙ ap (λ u. fold f u (statement_spawns (statement_of s))) before
    ∙ ap (λ z. fold f (fold f t (spawns (block_of (take i xs)))) (statement_spawns (statement_of z))) is
    ∙ sym (fold-append f t (spawns (block_of (take i xs))) (statement_spawns (statement_of (get_or xs i s))))
    ∙ ap (fold f t) (sym (spawns_more xs i s h))

pub branch_folded : {T : Type 0} (f : T → Spawn → T) (t middle last : T) (stmt : Stmt) (e : Expr)
    (v w : Vec Stmt Global) (first second : List Stmt) → stmt ≡ Branch e v w → first ≡ v.items → second ≡ w.items
    → middle ≡ fold f t (spawns (block_of first)) → last ≡ fold f middle (spawns (block_of second)) → last
    ≡ fold f t (statement_spawns (statement_of stmt))
branch_folded f t middle last stmt e v w first second is p q one two =
    two ∙ ap (λ u. fold f u (spawns (block_of second))) one
    ∙ ap (λ (xs : List Stmt). fold f (fold f t (spawns (block_of xs))) (spawns (block_of second))) p
    ∙ ap (λ (xs : List Stmt). fold f (fold f t (spawns (block_of v.items))) (spawns (block_of xs))) q
    ∙ sym (fold-append f t (spawns (block_of v.items)) (spawns (block_of w.items)))
    ∙ ap (λ s. fold f t (statement_spawns s)) (sym (branch_is e v w))
    ∙ ap (λ (s : Stmt). fold f t (statement_spawns (statement_of s))) (sym is)

pub repeat_folded : {T : Type 0} (f : T → Spawn → T) (t last : T) (stmt : Stmt) (x a b : ℕ) (v : Vec Stmt Global)
    (turn : List Stmt) → stmt ≡ Repeat x a b v → turn ≡ v.items
    → last ≡ fold f t (spawns (block_of turn)) → last ≡ fold f t (statement_spawns (statement_of stmt))
repeat_folded f t last stmt x a b v turn is p all =
    all ∙ ap (λ (xs : List Stmt). fold f t (spawns (block_of xs))) p
    ∙ ap (λ s. fold f t (statement_spawns s)) (sym (repeat_is x a b v))
    ∙ ap (λ (s : Stmt). fold f t (statement_spawns (statement_of s))) (sym is)

pub locked_folded : {T : Type 0} (f : T → Spawn → T) (t last : T) (stmt : Stmt) (r : ℕ) (v : Vec Stmt Global) (at : ℕ)
    (inner : List Stmt) → stmt ≡ Locked r v at → inner ≡ v.items
    → last ≡ fold f t (spawns (block_of inner)) → last ≡ fold f t (statement_spawns (statement_of stmt))
locked_folded f t last stmt r v at inner is p all =
    all ∙ ap (λ (xs : List Stmt). fold f t (spawns (block_of xs))) p
    ∙ ap (λ s. fold f t (statement_spawns s)) (sym (locked_is r v at))
    ∙ ap (λ (s : Stmt). fold f t (statement_spawns (statement_of s))) (sym is)
