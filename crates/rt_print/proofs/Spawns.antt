-- The texts of spawns and of bound values are read as them.
use Rattle.std.proofs.Common.{◌≡◌, ℕ, ◌≤◌, List, ◌∷◌, ◌++◌, map, length, Option, None, refl, ap, ◌∙◌, arith}
use Rattle.std.proofs.Common.{append_assoc}
use Rattle.std.specs.Prelude.{codes}
use Rattle.std.specs.List.{AllByRecursion}
use Rattle.rt_ids.specs.declared.limit.Limit.{Limit}
use Rattle.rt_ast.specs.declared.ident.Ident.{Ident}
use Rattle.rt_ast.specs.Tree.{Expression, Spawn, Soon, After, Cancel, Move, Value, Calc, Now, Call}
use Rattle.rt_ast.specs.Bare.{bare_expression, bare_spawn, bare_value}
use Rattle.rt_ast.specs.CanonicalExpression.{separated_list, expression_text}
use Rattle.rt_ast.specs.CanonicalBlock.{call_text, spawn_text, value_text}
use Rattle.rt_ast.specs.PrintableBody.{IsPrintableExpression, IsPrintableSpawn, IsPrintableValue}
use Rattle.rt_grammar.specs.Tokens.{free, name, sign, word, limited_word}
use Rattle.rt_grammar.specs.Expression.{expression}
use Rattle.rt_grammar.specs.Language.{◌or◌}
use Rattle.rt_grammar.specs.Spawn.{arguments, handle, soon, delayed_spawn, cancel, move, spawn, value}
use Rattle.rt_print.proofs.Reading.{Reads, Any, read_gives, read_then, read_left, read_right, read_space, read_same}
use Rattle.rt_print.proofs.Lexemes.{IsNamed, read_name, read_word, read_sign}
use Rattle.rt_print.proofs.Expressions.{IsTree, expression_reads, plain_closing, plain_semicolon}
use Rattle.rt_print.proofs.Lists.{IsEnd, Items, list_reads}

pub closing_ends : (Y : List ℕ) → IsEnd (41 ∷ Y)
closing_ends Y = record { stops = refl; plain = plain_closing Y }

abbrev AreTrees : List Expression → List Expression → Type 0
AreTrees args all = map bare_expression all ≡ map bare_expression args

argument_items : (most count : ℕ) → 16 ≤ most → Items (λ before. expression most) expression_text bare_expression
    IsPrintableExpression count
argument_items most count m = record {
  read = λ e before Y h fits ends. expression_reads e most Y h m ends.stops
      ends.plain;
}

arguments_read : (args : List Expression) (most : ℕ) (Y : List ℕ) → AllByRecursion IsPrintableExpression args
    → 16 ≤ most
    → Reads (arguments most) (AreTrees args) (40 ∷ (separated_list expression_text args ++ 41 ∷ Y)) Y
arguments_read args most Y h m =
    read_then (sign (codes "(")) _ Any (AreTrees args) (40 ∷ (separated_list expression_text args ++ 41 ∷ Y))
    (separated_list expression_text args ++ 41 ∷ Y) Y
    (read_sign (codes "(") free (separated_list expression_text args ++ 41 ∷ Y) refl refl) (λ c u.
    list_reads (codes ")") (λ before. expression most) expression_text bare_expression IsPrintableExpression
    (length args) args (41 ∷ Y) Y (argument_items most (length args) m) h (omega arith)
    (closing_ends Y) (read_sign (codes ")") free Y refl refl))

abbrev pub IsSpawn : Spawn → Spawn → Type 0
IsSpawn s t = bare_spawn t ≡ bare_spawn s

call_append : (task : Ident) (args : List Expression) (Y : List ℕ) → call_text task args ++ Y ≡ task.name ++ 40
    ∷ (separated_list expression_text args ++ 41 ∷ Y)
call_append task args Y = simp append_assoc refl

same_soon : (task task' : Ident) (args args' : List Expression) → IsNamed task task' → AreTrees args args'
    → IsSpawn (Soon task args) (Soon task' args')
same_soon task task' args args' e f = rw (e, f) refl

same_after : (at at' : ℕ) (delay delay' : Expression) (task task' : Ident) (args args' : List Expression)
    → IsTree delay delay' → IsNamed task task' → AreTrees args args'
    → IsSpawn (After at delay task args) (After at' delay' task' args')
same_after at at' delay delay' task task' args args' d e f = rw (d, e, f) refl

soon_reads : (task : Ident) (args : List Expression) (most : ℕ) (what : Option Limit) (Y : List ℕ)
    → IsPrintableSpawn (Soon task args) → 16 ≤ most → what ≡ None
    → Reads (soon most what) (IsSpawn (Soon task args)) (codes "spawn " ++ call_text task args ++ Y) Y
soon_reads task args most what Y h m w =
    let P = IsSpawn (Soon task args) in
    let Z = 40 ∷ (separated_list expression_text args ++ 41 ∷ Y) in
    read_same (soon most what) P (codes "spawn " ++ (task.name ++ Z)) _ Y
    (ap (λ (t : List ℕ). codes "spawn " ++ t) (call_append task args Y))
    (read_then (limited_word (codes "spawn") what) _ Any P (codes "spawn " ++ (task.name ++ Z)) (32 ∷ (task.name ++ Z))
    Y (read_word (codes "spawn") what (32 ∷ (task.name ++ Z)) w refl) (λ c u.
    read_space _ P (task.name ++ Z) Y
    (read_then name _ (IsNamed task) P (task.name ++ Z) Z Y (read_name task free Z h.0 refl refl) (λ task' e.
    read_then (arguments most) _ (AreTrees args) P Z Y Y (arguments_read args most Y h.1 m) (λ args' f.
    read_gives P (Soon task' args') Y (same_soon task task' args args' e f))))))

after_reads : (at : ℕ) (delay : Expression) (task : Ident) (args : List Expression) (most : ℕ) (what : Option Limit)
    (Y : List ℕ) → IsPrintableSpawn (After at delay task args) → 16 ≤ most → what ≡ None
    → Reads (delayed_spawn most what) (IsSpawn (After at delay task args))
    (spawn_text (After at delay task args) ++ Y) Y
after_reads at delay task args most what Y h m w =
    let P = IsSpawn (After at delay task args) in
    let Z = 40 ∷ (separated_list expression_text args ++ 41 ∷ Y) in
    let D = expression_text delay ++ (41 ∷ 32 ∷ (task.name ++ Z)) in
    let e : spawn_text (After at delay task args) ++ Y ≡ codes "spawn_after(" ++ D =
    ap (λ (t : List ℕ). codes "spawn_after(" ++ t)
    (append_assoc (expression_text delay ++ codes ") ") (call_text task args) Y
    ∙ append_assoc (expression_text delay) (codes ") ") (call_text task args ++ Y)
    ∙ ap (λ (t : List ℕ). expression_text delay ++ 41 ∷ 32 ∷ t) (call_append task args Y)) in
    read_same (delayed_spawn most what) P (codes "spawn_after(" ++ D) _ Y e
    (read_then (limited_word (codes "spawn_after") what) _ Any P
    (codes "spawn_after(" ++ D) (40 ∷ D) Y (read_word (codes "spawn_after") what (40 ∷ D) w refl) (λ at' u.
    read_then (sign (codes "(")) _ Any P (40 ∷ D) D Y (read_sign (codes "(") free D refl refl) (λ b v.
    read_then (expression most) _ (IsTree delay) P D (41 ∷ 32 ∷ (task.name ++ Z)) Y
    (expression_reads delay most (41 ∷ 32 ∷ (task.name ++ Z)) h.0 m refl (plain_closing (32 ∷ (task.name ++ Z))))
    (λ delay' d.
    read_then (sign (codes ")")) _ Any P (41 ∷ 32 ∷ (task.name ++ Z)) (32 ∷ (task.name ++ Z)) Y (read_sign (codes ")")
    free (32 ∷ (task.name ++ Z)) refl refl) (λ c x.
    read_space _ P (task.name ++ Z) Y
    (read_then name _ (IsNamed task) P (task.name ++ Z) Z Y (read_name task free Z h.1 refl refl) (λ task' n.
    read_then (arguments most) _ (AreTrees args) P Z Y Y (arguments_read args most Y h.2 m) (λ args' f.
    read_gives P (After at' delay' task' args') Y (same_after at at' delay delay' task task' args args' d n f)))))))))

handle_reads : (e : Expression) (most : ℕ) (Y : List ℕ) → IsPrintableExpression e → 16 ≤ most
    → Reads (handle most) (IsTree e) (40 ∷ (expression_text e ++ 41 ∷ Y)) Y
handle_reads e most Y h m =
    let P = IsTree e in
    let E = expression_text e ++ 41 ∷ Y in
    read_then (sign (codes "(")) _ Any P (40 ∷ E) E Y (read_sign (codes "(") free E refl refl) (λ b v.
    read_then (expression most) _ P P E (41 ∷ Y) Y
    (expression_reads e most (41 ∷ Y) h m refl (plain_closing Y)) (λ e' d.
    read_then (sign (codes ")")) _ Any P (41 ∷ Y) Y Y (read_sign (codes ")") free Y refl refl) (λ c x.
    read_gives P e' Y d)))

same_cancel : (at at' : ℕ) (task task' : Ident) (e e' : Expression) → IsNamed task task' → IsTree e e'
    → IsSpawn (Cancel at task e) (Cancel at' task' e')
same_cancel at at' task task' e e' n t = rw (n, t) refl

same_move : (at at' : ℕ) (delay delay' : Expression) (task task' : Ident) (e e' : Expression) → IsTree delay delay'
    → IsNamed task task' → IsTree e e' → IsSpawn (Move at delay task e) (Move at' delay' task' e')
same_move at at' delay delay' task task' e e' d n t = rw (d, n, t) refl

cancel_append : (task : Ident) (e : Expression) (Y : List ℕ)
    → spawn_text (Cancel 0 task e) ++ Y ≡ codes "cancel " ++ (task.name ++ 40 ∷ (expression_text e ++ 41 ∷ Y))
cancel_append task e Y = simp append_assoc refl

cancel_reads : (at : ℕ) (task : Ident) (e : Expression) (most : ℕ) (what : Option Limit) (Y : List ℕ)
    → IsPrintableSpawn (Cancel at task e) → 16 ≤ most → what ≡ None
    → Reads (cancel most what) (IsSpawn (Cancel at task e)) (spawn_text (Cancel at task e) ++ Y) Y
cancel_reads at task e most what Y h m w =
    let P = IsSpawn (Cancel at task e) in
    let Z = 40 ∷ (expression_text e ++ 41 ∷ Y) in
    let N = task.name ++ Z in
    read_same (cancel most what) P (codes "cancel " ++ N) _ Y (cancel_append task e Y)
    (read_then (limited_word (codes "cancel") what) _ Any P (codes "cancel " ++ N) (32 ∷ N) Y
    (read_word (codes "cancel") what (32 ∷ N) w refl) (λ at' u.
    read_space _ P N Y
    (read_then name _ (IsNamed task) P N Z Y (read_name task free Z h.0 refl refl) (λ task' n.
    read_then (handle most) _ (IsTree e) P Z Y Y (handle_reads e most Y h.1 m) (λ e' t.
    read_gives P (Cancel at' task' e') Y (same_cancel at at' task task' e e' n t))))))

move_append : (delay : Expression) (task : Ident) (e : Expression) (Y : List ℕ)
    → spawn_text (Move 0 delay task e) ++ Y ≡ codes "reschedule_after("
    ++ (expression_text delay ++ (41 ∷ 32 ∷ (task.name ++ 40 ∷ (expression_text e ++ 41 ∷ Y))))
move_append delay task e Y = simp append_assoc refl

move_reads : (at : ℕ) (delay : Expression) (task : Ident) (e : Expression) (most : ℕ) (what : Option Limit)
    (Y : List ℕ) → IsPrintableSpawn (Move at delay task e) → 16 ≤ most → what ≡ None
    → Reads (move most what) (IsSpawn (Move at delay task e)) (spawn_text (Move at delay task e) ++ Y) Y
move_reads at delay task e most what Y h m w =
    let P = IsSpawn (Move at delay task e) in
    let Z = 40 ∷ (expression_text e ++ 41 ∷ Y) in
    let N = task.name ++ Z in
    let D = expression_text delay ++ (41 ∷ 32 ∷ N) in
    read_same (move most what) P (codes "reschedule_after(" ++ D) _ Y (move_append delay task e Y)
    (read_then (limited_word (codes "reschedule_after") what) _ Any P (codes "reschedule_after(" ++ D) (40 ∷ D) Y
    (read_word (codes "reschedule_after") what (40 ∷ D) w refl) (λ at' u.
    read_then (sign (codes "(")) _ Any P (40 ∷ D) D Y (read_sign (codes "(") free D refl refl) (λ b v.
    read_then (expression most) _ (IsTree delay) P D (41 ∷ 32 ∷ N) Y
    (expression_reads delay most (41 ∷ 32 ∷ N) h.0 m refl (plain_closing (32 ∷ N))) (λ delay' d.
    read_then (sign (codes ")")) _ Any P (41 ∷ 32 ∷ N) (32 ∷ N) Y
    (read_sign (codes ")") free (32 ∷ N) refl refl) (λ c x.
    read_space _ P N Y
    (read_then name _ (IsNamed task) P N Z Y (read_name task free Z h.1 refl refl) (λ task' n.
    read_then (handle most) _ (IsTree e) P Z Y Y (handle_reads e most Y h.2 m) (λ e' t.
    read_gives P (Move at' delay' task' e') Y (same_move at at' delay delay' task task' e e' d n t)))))))))

pub spawn_reads : (s : Spawn) (most : ℕ) (what : Option Limit) (Y : List ℕ) → IsPrintableSpawn s → 16 ≤ most → what
    ≡ None → Reads (spawn most what) (IsSpawn s) (spawn_text s ++ Y) Y
spawn_reads (Soon task args) most what Y h m w =
    read_left (soon most what) (delayed_spawn most what or cancel most what or move most what) _ _ Y
    (soon_reads task args most what Y h m w)
spawn_reads (After at delay task args) most what Y h m w =
    read_right (soon most what) _ _ _ Y (read_left (delayed_spawn most what) (cancel most what or move most what) _ _ Y
    (after_reads at delay task args most what Y h m w))
spawn_reads (Cancel at task e) most what Y h m w =
    read_right (soon most what) _ _ _ Y (read_right (delayed_spawn most what) _ _ _ Y
    (read_left (cancel most what) (move most what) _ _ Y (cancel_reads at task e most what Y h m w)))
spawn_reads (Move at delay task e) most what Y h m w =
    read_right (soon most what) _ _ _ Y (read_right (delayed_spawn most what) _ _ _ Y
    (read_right (cancel most what) (move most what) _ _ Y (move_reads at delay task e most what Y h m w)))

abbrev pub IsValue : Value → Value → Type 0
IsValue v u = bare_value u ≡ bare_value v

-- a bound value, and the semicolon after it
pub value_reads : (v : Value) (most : ℕ) (Y : List ℕ) → IsPrintableValue v → 16 ≤ most
    → Reads (value most) (IsValue v) (value_text v ++ 59 ∷ Y) (59 ∷ Y)
value_reads (Calc e) most Y h m =
    read_right _ _ (IsValue (Calc e)) _ (59 ∷ Y) (read_right _ _ (IsValue (Calc e)) _ (59 ∷ Y)
    (read_then (expression most) _ (IsTree e) (IsValue (Calc e)) _ (59 ∷ Y) (59 ∷ Y)
    (expression_reads e most (59 ∷ Y) h m refl (plain_semicolon Y))
    (λ t p. read_gives _ (Calc t) (59 ∷ Y) (ap Calc p))))
value_reads (Now at) most Y h m =
    read_left _ _ (IsValue (Now at)) _ (59 ∷ Y)
    (read_then (word (codes "now")) _ Any (IsValue (Now at)) _ (59 ∷ Y) (59 ∷ Y)
    (read_word (codes "now") free (59 ∷ Y) refl refl) (λ at' u. read_gives _ (Now at') (59 ∷ Y) refl))
value_reads (Call s) most Y h m =
    read_right _ _ (IsValue (Call s)) _ (59 ∷ Y) (read_left _ _ (IsValue (Call s)) _ (59 ∷ Y)
    (read_then (spawn most free) _ (IsSpawn s) (IsValue (Call s)) _ (59 ∷ Y) (59 ∷ Y)
    (spawn_reads s most free (59 ∷ Y) h m refl) (λ t p. read_gives _ (Call t) (59 ∷ Y) (ap Call p))))
