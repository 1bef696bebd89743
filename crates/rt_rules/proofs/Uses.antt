-- The first violation behind uses that stand one behind the other.
use Rattle.std.proofs.Common.{◌≡◌, ℕ, Bool, Box, ◌+◌, ◌<◌, List, [], ◌∷◌, ◌++◌, length, get_or, take, map, flat_map}
use Rattle.std.proofs.Common.{Option, is_none, Vec, Global, refl, sym, ap, ◌∙◌}
use Rattle.std.proofs.lemmas.List.Concat.{flat_map-append}
use Rattle.rt_lemmas.proofs.Lists.{flat_map_next, flat_map-map}
use Rattle.rt_ids.specs.declared.rule.Rule.TheVariants as rule
use Rattle.rt_ids.specs.declared.op.Op.{Op}
use Rattle.rt_app.specs.Tree as tree
use Rattle.rt_app.specs.Tree.{App}
use Rattle.rt_app.specs.Bodies.{Member}
use Rattle.rt_app.specs.View.{expression_of, spawn_of, statement_of, block_of}
use Rattle.rt_app.specs.Violation.{when}
use Rattle.rt_app.specs.Statements.{is_bad_spawn, is_bad_message, use_breaks, breaks}
use Rattle.rt_app.specs.Use.{Use, Placed, Locks, MakesSpawn, use_with_locks, reads, spawn_uses, statement_uses, uses}
use Rattle.rt_app.specs.declared.violation.Violation.{Violation}
use Rattle.rt_app.specs.declared.expr.Expr.{Expr, Oper}
use Rattle.rt_app.specs.declared.stmt.Spawn.{Spawn}
use Rattle.rt_app.specs.declared.stmt.Spawn.TheVariants.{After, Move}
use Rattle.rt_app.specs.declared.stmt.Stmt.{Stmt, Branch, Repeat, Locked}
use Rattle.rt_app.proofs.Statements.{branch_is, repeat_is, locked_is}
use Rattle.rt_rules.specs.Inside.First.{first_of}
use Rattle.rt_rules.specs.Inside.Uses.{first_use}
use Rattle.rt_rules.proofs.Fold.{behind}

-- uses behind others
pub uses_behind : (app : App) (m : Member) (o p q : Option Violation) (xs ys zs : List Placed) → zs ≡ xs ++ ys → p
    ≡ first_use app m o xs → q ≡ first_use app m p ys → q ≡ first_use app m o zs
uses_behind app m o p q xs ys zs all before here =
    behind o p q (flat_map (breaks app m) xs) (flat_map (breaks app m) ys) before here
    ∙ ap (first_of o) (sym (flat_map-append (breaks app m) xs ys)) ∙ ap (first_use app m o) (sym all)

-- uses behind one
pub uses_behind_one : (app : App) (m : Member) (o p q : Option Violation) (locked : List ℕ) (u : Use)
    (ys zs : List Placed)
    → zs ≡ use_with_locks locked u ∷ ys → p ≡ first_of o (use_breaks app m locked u) → q ≡ first_use app m p ys → q
    ≡ first_use app m o zs
uses_behind_one app m o p q locked u ys zs all before here = behind o p q (use_breaks app m locked u)
    (flat_map (breaks app m) ys) before here ∙ ap (first_use app m o) (sym all)

pub branch_uses : (locked : List ℕ) (stmt : Stmt) (e : Expr) (v w : Vec Stmt Global) (first second : List Stmt) → stmt
    ≡ Branch e v w → first ≡ v.items → second ≡ w.items
    → statement_uses locked (statement_of stmt) ≡ reads locked (expression_of e)
    ++ (uses locked (block_of first) ++ uses locked (block_of second))
branch_uses locked stmt e v w first second is f g = ap (λ s. statement_uses locked (statement_of s)) is
    ∙ ap (statement_uses locked) (branch_is e v w) ∙ rw (f, g) refl

pub repeat_uses : (locked : List ℕ) (stmt : Stmt) (x a b : ℕ) (v : Vec Stmt Global) (turn : List Stmt) → stmt
    ≡ Repeat x a b v → turn ≡ v.items → statement_uses locked (statement_of stmt) ≡ uses locked (block_of turn)
repeat_uses locked stmt x a b v turn is f = ap (λ s. statement_uses locked (statement_of s)) is
    ∙ ap (statement_uses locked) (repeat_is x a b v) ∙ rw f refl

pub lock_uses : (locked : List ℕ) (stmt : Stmt) (r : ℕ) (v : Vec Stmt Global) (at : ℕ) (inner : List Stmt) → stmt
    ≡ Locked r v at → inner ≡ v.items
    → statement_uses locked (statement_of stmt) ≡ use_with_locks locked (Locks r at)
    ∷ uses (r ∷ locked) (block_of inner)
lock_uses locked stmt r v at inner is f = ap (λ s. statement_uses locked (statement_of s)) is
    ∙ ap (statement_uses locked) (locked_is r v at) ∙ rw f refl

uses_are : (locked : List ℕ) (stmts : List Stmt) → uses locked (block_of stmts)
    ≡ flat_map (λ s. statement_uses locked (statement_of s)) stmts
uses_are locked [] = refl
uses_are locked (s ∷ stmts) = ap (λ xs. statement_uses locked (statement_of s) ++ xs) (uses_are locked stmts)

pub uses_more : (locked : List ℕ) (stmts : List Stmt) (i : ℕ) (x : Stmt) → i < length stmts → x ≡ get_or stmts i x
    → uses locked (block_of (take (i + 1) stmts)) ≡ uses locked (block_of (take i stmts))
    ++ statement_uses locked (statement_of x)
uses_more locked stmts i x h e =
    uses_are locked (take (i + 1) stmts)
    ∙ flat_map_next (λ s. statement_uses locked (statement_of s)) stmts i x h e
    ∙ ap (λ xs. xs ++ statement_uses locked (statement_of x)) (sym (uses_are locked (take i stmts)))

pub reads_more : (locked : List ℕ) (es : List Expr) (i : ℕ) (x : Expr) → i < length es → x ≡ get_or es i x
    → flat_map (reads locked) (map expression_of (take (i + 1) es)) ≡ flat_map (reads locked)
    (map expression_of (take i es)) ++ reads locked (expression_of x)
reads_more locked es i x h e =
    flat_map-map (reads locked) expression_of (take (i + 1) es)
    ∙ flat_map_next (λ e. reads locked (expression_of e)) es i x h e
    ∙ ap (λ xs. xs ++ reads locked (expression_of x)) (sym (flat_map-map (reads locked) expression_of (take i es)))

pub operands : (locked : List ℕ) (expr left right : Expr) (o : Op) (a b : Box Expr Global) → expr ≡ Oper o a b → left
    ≡ a.value → right ≡ b.value
    → reads locked (expression_of expr) ≡ reads locked (expression_of left) ++ reads locked (expression_of right)
operands locked expr left right o a b is f g = ap (λ e. reads locked (expression_of e)) is ∙ rw (f, g) refl

-- a spawn after a delay: the word, the task, the delay and the arguments
pub after_uses : (app : App) (m : Member) (locked : List ℕ) (o p q r s : Option Violation) (spawn : Spawn) (word : ℕ)
    (delay : Expr) (task : ℕ) (own : Vec Expr Global) (at : ℕ) (args args' : List Expr) (timeless : Bool)
    → spawn ≡ After word delay task own at → args ≡ own.items → args' ≡ own.items → timeless ≡ is_none app.mono
    → p ≡ first_of o (when timeless rule.NoMonotonic word)
    → q ≡ first_of p (when (is_bad_spawn app task (map expression_of args)) rule.NotSoftware at)
    → r ≡ first_use app m q (reads locked (expression_of delay))
    → s ≡ first_use app m r (flat_map (reads locked) (map expression_of args'))
    → s ≡ first_use app m o (spawn_uses locked (spawn_of spawn))
after_uses app m locked o p q r s spawn word delay task own at args args' timeless is f f' t e1 e2 e3 e4 =
    let u : tree.Spawn = tree.After word (expression_of delay) task (map expression_of own.items) at in
    let ds = reads locked (expression_of delay) in
    let es = flat_map (reads locked) (map expression_of own.items) in
    let spawned : q ≡ first_of o (use_breaks app m locked (MakesSpawn u)) =
    behind o p q (when (is_none app.mono) rule.NoMonotonic word)
    (when (is_bad_spawn app task (map expression_of own.items)) rule.NotSoftware at)
    (e1 ∙ ap (λ b. first_of o (when b rule.NoMonotonic word)) t)
    (e2 ∙ ap (λ (es : List Expr). first_of p (when (is_bad_spawn app task (map expression_of es)) rule.NotSoftware at))
    f) in
    let behind_delay : s ≡ first_use app m q (ds ++ es) =
    uses_behind app m q r s ds es (ds ++ es) refl e3
    (e4 ∙ ap (λ (es : List Expr). first_use app m r (flat_map (reads locked) (map expression_of es))) f') in
    uses_behind_one app m o q s locked (MakesSpawn u) (ds ++ es) (spawn_uses locked (spawn_of spawn))
    (ap (λ s. spawn_uses locked (spawn_of s)) is) spawned behind_delay

-- a message that is put off by its handle: the word and the task, the delay and the handle
pub move_uses : (app : App) (m : Member) (locked : List ℕ) (o p q r : Option Violation)
    (spawn : Spawn) (word : ℕ) (delay : Expr) (task : ℕ) (handle : Expr) (at : ℕ)
    → spawn ≡ Move word delay task handle at
    → p ≡ first_of o
    (when (is_none app.mono) rule.NoMonotonic word ++ when (is_bad_message app task) rule.NotSoftware at)
    → q ≡ first_use app m p (reads locked (expression_of delay))
    → r ≡ first_use app m q (reads locked (expression_of handle))
    → r ≡ first_use app m o (spawn_uses locked (spawn_of spawn))
move_uses app m locked o p q r spawn word delay task handle at is e1 e2 e3 =
    let u : tree.Spawn = tree.Move word (expression_of delay) task (expression_of handle) at in
    let ds = reads locked (expression_of delay) in
    let hs = reads locked (expression_of handle) in
    let behind_task : r ≡ first_use app m p (ds ++ hs) = uses_behind app m p q r ds hs (ds ++ hs) refl e2 e3 in
    uses_behind_one app m o p r locked (MakesSpawn u) (ds ++ hs) (spawn_uses locked (spawn_of spawn))
    (ap (λ s. spawn_uses locked (spawn_of s)) is) e1 behind_task
