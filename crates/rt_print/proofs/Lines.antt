-- Statements and blocks of the code, and their texts.
use Rattle.std.proofs.Common.{◌≡◌, ℕ, ◌<◌, List, [], ◌∷◌, ◌++◌, flat_map, length, Box, Vec, Global, Result, OnOk, Some}
use Rattle.std.proofs.Common.{codes, decimal, refl, sym, ap, ◌∙◌, arith, append_assoc}
use Rattle.rt_lemmas.proofs.Results.{on_ok_weaker}
use Rattle.rt_ast.specs.Tree as tree
use Rattle.rt_ast.specs.View.{expression_of, spawn_of, statement_of, block_of}
use Rattle.rt_ast.specs.declared.app.MonoTree.{MonoTree}
use Rattle.rt_ast.specs.Canonical.{mono_text}
use Rattle.rt_ast.specs.CanonicalExpression.{newline, name_text, expression_text}
use Rattle.rt_ast.specs.CanonicalBlock.{deeper, line, braces, branch_head, repeat_head, lock_head, spawn_text}
use Rattle.rt_ast.specs.CanonicalBlock.{statement_text, block_text, else_text, lines_text}
use Rattle.rt_ast.specs.declared.ident.Ident.{Ident}
use Rattle.rt_ast.specs.declared.expr.Expr.{Expr}
use Rattle.rt_ast.specs.declared.stmt.Spawn.{Spawn}
use Rattle.rt_ast.specs.declared.stmt.Spawn.TheVariants.{Move}
use Rattle.rt_ast.specs.declared.stmt.Stmt.{Stmt, Branch, Repeat, Locked}
use Rattle.rt_ast.proofs.Statements.{branch_is, repeat_is, locked_is}

abbrev pub line_of : List ℕ → Stmt → List ℕ
line_of margin s = line margin (statement_text margin (statement_of s))

pub lines_are : (margin : List ℕ) (stmts : List Stmt) → lines_text margin (block_of stmts)
    ≡ flat_map (line_of margin) stmts
lines_are margin [] = refl
lines_are margin (s ∷ stmts) = ap (λ (t : List ℕ). line_of margin s ++ t) (lines_are margin stmts)

pub block_some : (margin : List ℕ) (stmts : List Stmt) → 0 < length stmts → block_text margin (block_of stmts)
    ≡ braces margin (lines_text (deeper margin) (block_of stmts))
block_some margin [] h = absurd (omega (arith, h))
block_some margin (s ∷ stmts) h = refl

pub else_some : (margin : List ℕ) (stmts : List Stmt) → 0 < length stmts → else_text margin (block_of stmts) ≡ 32 ∷ 101
    ∷ 108 ∷ 115 ∷ 101 ∷ 32 ∷ block_text margin (block_of stmts)
else_some margin [] h = absurd (omega (arith, h))
else_some margin (s ∷ stmts) h = refl

any_name : Ident
any_name = record { name = []; at = 0 }

pub branch_text_is : (margin : List ℕ) (e : Expr) (v w : Vec Stmt Global)
    → statement_text margin (statement_of (Branch e v w)) ≡ statement_text margin
    (tree.Branch (expression_of e) (block_of v.items) (block_of w.items))
branch_text_is margin e v w = ap (statement_text margin) (branch_is any_name e v w)

pub repeat_text_is : (margin : List ℕ) (x : Ident) (first last : ℕ) (v : Vec Stmt Global)
    → statement_text margin (statement_of (Repeat x first last v)) ≡ statement_text margin
    (tree.Repeat x first last (block_of v.items))
repeat_text_is margin x first last v = ap (statement_text margin) (repeat_is x first last v)

pub lock_text_is : (margin : List ℕ) (x : Ident) (v : Vec Stmt Global)
    → statement_text margin (statement_of (Locked x v)) ≡ statement_text margin (tree.Locked x (block_of v.items))
lock_text_is margin x v = ap (statement_text margin) (locked_is x v)

pub block_appended : (margin within o0 o1 o2 o3 o4 : List ℕ) (stmts : List Stmt) → 0 < length stmts → o1 ≡ o0 ++ 123
    ∷ 10 ∷ [] → within ≡ deeper margin → o2 ≡ o1 ++ lines_text within (block_of stmts) → o3 ≡ o2 ++ margin
    → o4 ≡ o3 ++ 125 ∷ [] → o4 ≡ o0 ++ block_text margin (block_of stmts)
block_appended margin within o0 o1 o2 o3 o4 stmts some e1 w e2 e3 e4 =
    rw (e4, e3, e2, e1, w, block_some margin stmts some) (simp append_assoc refl)

pub else_appended : (margin o0 o1 o2 : List ℕ) (stmts : List Stmt) → 0 < length stmts → o1 ≡ o0 ++ codes " else " → o2
    ≡ o1 ++ block_text margin (block_of stmts) → o2 ≡ o0 ++ else_text margin (block_of stmts)
else_appended margin o0 o1 o2 stmts some e1 e2 = rw (e2, e1, else_some margin stmts some)
    (append_assoc o0 (codes " else ") (block_text margin (block_of stmts)))

pub branch_appended : (margin o0 o1 o2 o3 : List ℕ) (stmt : Stmt) (e : Expr) (v w : Vec Stmt Global)
    (first second : List Stmt) → stmt ≡ Branch e v w → o1 ≡ o0 ++ branch_head (expression_of e) → first ≡ v.items
    → o2 ≡ o1 ++ block_text margin (block_of first) → second ≡ w.items → o3 ≡ o2 ++ else_text margin (block_of second)
    → o3 ≡ o0 ++ statement_text margin (statement_of stmt)
branch_appended margin o0 o1 o2 o3 stmt e v w first second is e1 f e2 g e3 =
    e3 ∙ ap (λ (t : List ℕ). t ++ else_text margin (block_of second))
    (e2 ∙ ap (λ (t : List ℕ). t ++ block_text margin (block_of first)) e1)
    ∙ append_assoc (o0 ++ branch_head (expression_of e)) (block_text margin (block_of first))
    (else_text margin (block_of second))
    ∙ append_assoc o0 (branch_head (expression_of e)) (block_text margin (block_of first)
    ++ else_text margin (block_of second))
    ∙ ap (λ (t : List ℕ). o0 ++ t) (sym (append_assoc (branch_head (expression_of e))
    (block_text margin (block_of first)) (else_text margin (block_of second))))
    ∙ ap (λ (xs : List Stmt). o0 ++ (branch_head (expression_of e) ++ block_text margin (block_of xs)
    ++ else_text margin (block_of second))) f
    ∙ ap (λ (xs : List Stmt). o0 ++ (branch_head (expression_of e) ++ block_text margin (block_of v.items)
    ++ else_text margin (block_of xs))) g
    ∙ ap (λ (t : List ℕ). o0 ++ t) (sym (branch_text_is margin e v w))
    ∙ ap (λ (s : Stmt). o0 ++ statement_text margin (statement_of s)) (sym is)

pub repeat_appended : (margin o0 o1 o2 : List ℕ) (stmt : Stmt) (x : Ident) (a b : ℕ) (v : Vec Stmt Global)
    (turn : List Stmt) → stmt ≡ Repeat x a b v → o1 ≡ o0 ++ repeat_head x a b → turn ≡ v.items
    → o2 ≡ o1 ++ block_text margin (block_of turn) → o2 ≡ o0 ++ statement_text margin (statement_of stmt)
repeat_appended margin o0 o1 o2 stmt x a b v turn is e1 f e2 =
    e2 ∙ ap (λ (t : List ℕ). t ++ block_text margin (block_of turn)) e1
    ∙ append_assoc o0 (repeat_head x a b) (block_text margin (block_of turn))
    ∙ ap (λ (xs : List Stmt). o0 ++ (repeat_head x a b ++ block_text margin (block_of xs))) f
    ∙ ap (λ (t : List ℕ). o0 ++ t) (sym (repeat_text_is margin x a b v))
    ∙ ap (λ (s : Stmt). o0 ++ statement_text margin (statement_of s)) (sym is)

pub lock_appended : (margin o0 o1 o2 : List ℕ) (stmt : Stmt) (x : Ident) (v : Vec Stmt Global) (inner : List Stmt)
    → stmt ≡ Locked x v → o1 ≡ o0 ++ lock_head x → inner ≡ v.items
    → o2 ≡ o1 ++ block_text margin (block_of inner) → o2 ≡ o0 ++ statement_text margin (statement_of stmt)
lock_appended margin o0 o1 o2 stmt x v inner is e1 f e2 =
    e2 ∙ ap (λ (t : List ℕ). t ++ block_text margin (block_of inner)) e1
    ∙ append_assoc o0 (lock_head x) (block_text margin (block_of inner))
    ∙ ap (λ (xs : List Stmt). o0 ++ (lock_head x ++ block_text margin (block_of xs))) f
    ∙ ap (λ (t : List ℕ). o0 ++ t) (sym (lock_text_is margin x v))
    ∙ ap (λ (s : Stmt). o0 ++ statement_text margin (statement_of s)) (sym is)

-- the same, where the last step may fail
pub block_is : {A E : Type 0} (r : Result A E) (margin within o0 o1 o2 o3 o4 : List ℕ) (stmts : List Stmt)
    → 0 < length stmts → o1 ≡ o0 ++ 123 ∷ 10 ∷ [] → within ≡ deeper margin → o2 ≡ o1
    ++ lines_text within (block_of stmts)
    → o3 ≡ o2 ++ margin → OnOk r (o4 ≡ o3 ++ 125 ∷ []) → OnOk r (o4 ≡ o0 ++ block_text margin (block_of stmts))
block_is r margin within o0 o1 o2 o3 o4 stmts some e1 w e2 e3 h = on_ok_weaker r _ _
    (λ e. block_appended margin within o0 o1 o2 o3 o4 stmts some e1 w e2 e3 e) h

pub else_is : {A E : Type 0} (r : Result A E) (margin o0 o1 o2 : List ℕ) (stmts : List Stmt) → 0 < length stmts → o1
    ≡ o0 ++ codes " else " → OnOk r (o2 ≡ o1 ++ block_text margin (block_of stmts))
    → OnOk r (o2 ≡ o0 ++ else_text margin (block_of stmts))
else_is r margin o0 o1 o2 stmts some e1 h = on_ok_weaker r _ _ (λ e. else_appended margin o0 o1 o2 stmts some e1 e) h

pub branch_text_appended : {A E : Type 0} (r : Result A E) (margin o0 o1 o2 o3 : List ℕ) (stmt : Stmt) (e : Expr)
    (v w : Vec Stmt Global) (first second : List Stmt) → stmt ≡ Branch e v w
    → o1 ≡ o0 ++ branch_head (expression_of e) → first ≡ v.items → o2 ≡ o1 ++ block_text margin (block_of first)
    → second ≡ w.items → OnOk r (o3 ≡ o2 ++ else_text margin (block_of second))
    → OnOk r (o3 ≡ o0 ++ statement_text margin (statement_of stmt))
branch_text_appended r margin o0 o1 o2 o3 stmt e v w first second is e1 f e2 g h =
    on_ok_weaker r _ _ (λ k. branch_appended margin o0 o1 o2 o3 stmt e v w first second is e1 f e2 g k) h

pub repeat_text_appended : {A E : Type 0} (r : Result A E) (margin o0 o1 o2 : List ℕ) (stmt : Stmt) (x : Ident)
    (a b : ℕ) (v : Vec Stmt Global) (turn : List Stmt) → stmt ≡ Repeat x a b v → o1 ≡ o0 ++ repeat_head x a b
    → turn ≡ v.items → OnOk r (o2 ≡ o1 ++ block_text margin (block_of turn))
    → OnOk r (o2 ≡ o0 ++ statement_text margin (statement_of stmt))
repeat_text_appended r margin o0 o1 o2 stmt x a b v turn is e1 f h =
    on_ok_weaker r _ _ (λ k. repeat_appended margin o0 o1 o2 stmt x a b v turn is e1 f k) h

pub lock_text_appended : {A E : Type 0} (r : Result A E) (margin o0 o1 o2 : List ℕ) (stmt : Stmt) (x : Ident)
    (v : Vec Stmt Global) (inner : List Stmt) → stmt ≡ Locked x v → o1 ≡ o0 ++ lock_head x → inner ≡ v.items
    → OnOk r (o2 ≡ o1 ++ block_text margin (block_of inner)) → OnOk r
    (o2 ≡ o0 ++ statement_text margin (statement_of stmt))
lock_text_appended r margin o0 o1 o2 stmt x v inner is e1 f h = on_ok_weaker r _ _
    (λ k. lock_appended margin o0 o1 o2 stmt x v inner is e1 f k) h

-- a message that is put off
move_appended : (o0 o1 o2 d n h : List ℕ) → o1 ≡ o0 ++ (codes "reschedule_after(" ++ d ++ codes ") ")
    → o2 ≡ o1 ++ (n ++ codes "(" ++ h ++ codes ")")
    → o2 ≡ o0 ++ (codes "reschedule_after(" ++ d ++ codes ") " ++ n ++ codes "(" ++ h ++ codes ")")
move_appended o0 o1 o2 d n h e1 e2 = rw (e2, e1) (simp append_assoc refl)

pub move_text_appended : {A E : Type 0} (r : Result A E) (o0 o1 o2 : List ℕ) (spawn : Spawn) (at : ℕ)
    (delay : Box Expr Global) (task : Ident) (handle : Expr) → spawn ≡ Move at delay task handle
    → o1 ≡ o0 ++ (codes "reschedule_after(" ++ expression_text (expression_of delay.value) ++ codes ") ")
    → OnOk r (o2 ≡ o1 ++ (name_text task ++ codes "(" ++ expression_text (expression_of handle) ++ codes ")"))
    → OnOk r (o2 ≡ o0 ++ spawn_text (spawn_of spawn))
move_text_appended r o0 o1 o2 spawn at delay task handle is e1 h =
    on_ok_weaker r _ _ (λ k. move_appended o0 o1 o2 (expression_text (expression_of delay.value)) (name_text task)
    (expression_text (expression_of handle)) e1 k
    ∙ ap (λ (s : Spawn). o0 ++ spawn_text (spawn_of s)) (sym is)) h

mono_appended : (o0 o1 o2 o3 o4 o5 x n : List ℕ) → o1 ≡ o0 ++ codes
    "monotonic(binds = " → o2 ≡ o1 ++ x → o3 ≡ o2 ++ codes ", priority = " → o4 ≡ o3 ++ n → o5 ≡ o4 ++ 41 ∷ 59 ∷ 10 ∷ []
    → o5 ≡ o0 ++ (codes "monotonic(binds = " ++ x ++ codes ", priority = " ++ n ++ codes ");" ++ newline)
mono_appended o0 o1 o2 o3 o4 o5 x n e1 e2 e3 e4 e5 = rw (e5, e4, e3, e2, e1) (simp append_assoc refl)

pub mono_text_appended : {A E : Type 0} (r : Result A E) (o0 o1 o2 o3 o4 o5 : List ℕ) (mono : MonoTree) → o1 ≡ o0
    ++ codes "monotonic(binds = " → o2 ≡ o1 ++ mono.binds.name → o3 ≡ o2 ++ codes ", priority = "
    → o4 ≡ o3 ++ decimal mono.priority.value → OnOk r (o5 ≡ o4 ++ 41 ∷ 59 ∷ 10 ∷ [])
    → OnOk r (o5 ≡ o0 ++ mono_text (Some mono))
mono_text_appended r o0 o1 o2 o3 o4 o5 mono e1 e2 e3 e4 h = on_ok_weaker r _ _
    (λ k. mono_appended o0 o1 o2 o3 o4 o5 mono.binds.name (decimal mono.priority.value) e1 e2 e3 e4 k) h
