-- What there is to do behind the beginning of a statement is the statement.
use Rattle.std.proofs.Common.{◌≡◌, ℕ, suc, ◌+◌, ◌-◌, ◌<◌, ◌≤◌, ◌==◌, Bool, true, false, List, [], ◌∷◌, ◌++◌}
use Rattle.std.proofs.Common.{map, set, length, get_or, take, Option, Some, None, Bor, refl, ap, ◌∙◌, sym, arith}
use Rattle.std.proofs.Common.{if◌then◌else◌}
use Rattle.std.proofs.lemmas.List.{map_push}
use Rattle.rt_lemmas.proofs.Lists.{map_next}
use Rattle.rt_actions.specs.Location.{Guarded, Own}
use Rattle.rt_actions.specs.Content.{Message, Values, Number, values_with}
use Rattle.rt_ids.specs.declared.ids.Section.TheVariants as section
use Rattle.rt_app.specs.declared.costs.TheConstants.{FREE_COST}
use Rattle.rt_app.specs.declared.expr.Atom.{Atom}
use Rattle.rt_app.specs.declared.expr.Atom.TheVariants as atom
use Rattle.rt_app.specs.declared.expr.Expr.{Expr}
use Rattle.rt_app.specs.declared.stmt.Stmt.{Stmt}
use Rattle.rt_app.specs.Tree.{Expression, Spawn, Soon, After, Cancel, Move, Value, Calc, Now, Call, Statement}
use Rattle.rt_app.specs.Tree.{Bind}
use Rattle.rt_app.specs.Tree.{Branch, Repeat, Locked, Emit, Pend, Block, App}
use Rattle.rt_ids.specs.Lists.{or_zero}
use Rattle.rt_app.specs.Handlers.{irq_number}
use Rattle.rt_app.specs.Cost.{Measure, lock_cost, block_cost, statement_cost}
use Rattle.rt_app.specs.BodyCost.{cost_measure, handle_section_cost}
use Rattle.rt_app.specs.View.{expression_of, statement_of, block_of}
use Rattle.rt_app.specs.Meaning.{Later, value_in, bind, assign, turns_from, run, run_block}
use Rattle.rt_baker_work.specs.declared.action.Action.TheVariants as action
use Rattle.rt_baker_work.specs.declared.todo.Todo.TheVariants as todo
use Rattle.rt_baker_work.specs.declared.todo.Reading.TheVariants as reading
use Rattle.rt_baker_work.specs.Store.{Store, contents}
use Rattle.rt_baker_work.specs.Todo.{behind}
use Rattle.rt_baker_work.specs.Work.{Work, Becomes}
use Rattle.rt_baker_work.specs.Inside.Pushes.{make_spawn}
use Rattle.rt_baker_work.proofs.Walks.{made, with_todos, behind_more, grown, pushed, variable_set, content_set}

abbrev carrying : ℕ → List ℕ → Message
carrying n args = record { task = n; args = args }

pub values_more : (f : Expression → ℕ) (xs : List Expr) (i : ℕ) (x : Expr) (before after : List ℕ) (v : ℕ)
    → i < length xs → x ≡ get_or xs i x
    → before ≡ map f (map expression_of (take i xs)) → v ≡ f (expression_of x) → after ≡ before ++ v ∷ []
    → after ≡ map f (map expression_of (take (i + 1) xs))
values_more f xs i x before after v within is e g h =
    h ∙ ap (λ (l : List ℕ). l ++ v ∷ []) e ∙ ap (λ (n : ℕ). map f (map expression_of (take i xs)) ++ n ∷ []) g
    ∙ sym (ap (map f) (map_next expression_of xs i x within is)
    ∙ map_push f (map expression_of (take i xs)) (expression_of x))

-- values by the variables as they are told
pub value_told : (vars ws : List ℕ) (s : Store) (e : Expression) (n : ℕ) → vars ≡ ws
    → n ≡ value_in vars (contents s) e → n ≡ value_in ws (contents s) e
value_told vars ws s e n same is = is ∙ ap (λ (l : List ℕ). value_in l (contents s) e) same

pub message_told : (vars ws : List ℕ) (s : Store) (xs ys : List Expr) (n : ℕ) (m : Message) → vars ≡ ws → xs ≡ ys
    → m ≡ record { task = n; args = map (value_in vars (contents s)) (map expression_of xs) }
    → m ≡ record { task = n; args = map (value_in ws (contents s)) (map expression_of ys) }
message_told vars ws s xs ys n m same alike is =
    is ∙ ap (λ (l : List ℕ). carrying n (map (value_in l (contents s)) (map expression_of xs))) same
    ∙ ap (λ (zs : List Expr). carrying n (map (value_in ws (contents s)) (map expression_of zs))) alike

-- what is said of one beginning holds of another that is the same
pub as_other : (app : App) (f g : Later → Later) (old new : Work) (s t : Store) → ((later : Later)
    → g later old.vars (contents s) ≡ f later old.vars (contents s))
    → Becomes app f old s new t → Becomes app g old s new t
as_other app f g old new s t same h = record { same = λ later. same (behind app old.todos later) ∙ h.same later }

-- a spawn enters the section of its task's places
pub soon_asked : (app : App) (variable : Option ℕ) (s : Spawn) (n at : ℕ) (args : List Expression) (m : Message)
    (old new : Work) (st : Store)
    → s ≡ Soon n args at → m ≡ record { task = n; args = map (value_in old.vars (contents st)) args }
    → new ≡ with_todos old (todo.Place variable None m ∷ todo.Act (action.Enter (section.Free m.task) FREE_COST) ∷ [])
    → Becomes app (make_spawn app variable s) old st new st
unfolding behind
soon_asked app variable s n at args m old new st is carried grown =
    pushed app (make_spawn app variable s) old new st _ grown
    (λ later.
    ap (λ (x : Spawn). make_spawn app variable x later old.vars (contents st)) is
    ∙ ap (λ (k : Message). behind app (todo.Place variable None k ∷ todo.Act (action.Enter (section.Free k.task)
    FREE_COST) ∷ []) later old.vars (contents st)) (sym carried))

pub after_asked : (app : App) (variable : Option ℕ) (s : Spawn) (word n at ticks : ℕ) (delay : Expression) (args :
    List Expression) (m : Message) (old new : Work) (st : Store)
    → s ≡ After word delay n args at → ticks ≡ value_in old.vars (contents st) delay
    → m ≡ record { task = n; args = map (value_in old.vars (contents st)) args }
    → new ≡ with_todos old (todo.Place variable (Some ticks) m ∷ todo.Act (action.Enter (section.Free m.task)
    FREE_COST) ∷ [])
    → Becomes app (make_spawn app variable s) old st new st
unfolding behind
after_asked app variable s word n at ticks delay args m old new st is late carried grown =
    pushed app (make_spawn app variable s) old new st _ grown
    (λ later.
    ap (λ (x : Spawn). make_spawn app variable x later old.vars (contents st)) is
    ∙ ap (λ (k : Message). behind app (todo.Place variable (Some (value_in old.vars (contents st) delay)) k ∷
    todo.Act (action.Enter (section.Free k.task) FREE_COST) ∷ []) later old.vars (contents st)) (sym carried)
    ∙ ap (λ (d : ℕ). behind app (todo.Place variable (Some d) m ∷ todo.Act (action.Enter (section.Free m.task)
    FREE_COST) ∷ []) later old.vars (contents st)) (sym late))

-- a cancel and a move enter the section of the armed messages
pub cancel_asked : (app : App) (variable : Option ℕ) (s : Spawn) (word n at h cost : ℕ) (handle : Expression)
    (old new : Work) (st : Store)
    → s ≡ Cancel word n handle at → h ≡ value_in old.vars (contents st) handle → cost ≡ handle_section_cost app
    → new ≡ with_todos old (todo.Cancel variable n h ∷ todo.Act (action.Enter section.Timer cost) ∷ [])
    → Becomes app (make_spawn app variable s) old st new st
unfolding behind
cancel_asked app variable s word n at h cost handle old new st is told takes grown =
    pushed app (make_spawn app variable s) old new st _ grown
    (λ later.
    ap (λ (x : Spawn). make_spawn app variable x later old.vars (contents st)) is
    ∙ ap (λ (k : ℕ). behind app (todo.Cancel variable n k ∷ todo.Act (action.Enter section.Timer
    (handle_section_cost app)) ∷ []) later old.vars (contents st)) (sym told)
    ∙ ap (λ (k : ℕ). behind app (todo.Cancel variable n h ∷ todo.Act (action.Enter section.Timer k) ∷ []) later
    old.vars (contents st)) (sym takes))

pub move_asked : (app : App) (variable : Option ℕ) (s : Spawn) (word n at ticks h cost : ℕ)
    (delay handle : Expression) (old new : Work) (st : Store)
    → s ≡ Move word delay n handle at → ticks ≡ value_in old.vars (contents st) delay
    → h ≡ value_in old.vars (contents st) handle → cost ≡ handle_section_cost app
    → new ≡ with_todos old (todo.Move variable ticks n h ∷ todo.Act (action.Enter section.Timer cost) ∷ [])
    → Becomes app (make_spawn app variable s) old st new st
unfolding behind
move_asked app variable s word n at ticks h cost delay handle old new st is late told takes grown =
    pushed app (make_spawn app variable s) old new st _ grown
    (λ later.
    ap (λ (x : Spawn). make_spawn app variable x later old.vars (contents st)) is
    ∙ ap (λ (k : ℕ). behind app (todo.Move variable k n (value_in old.vars (contents st) handle) ∷ todo.Act
    (action.Enter section.Timer (handle_section_cost app)) ∷ []) later old.vars (contents st)) (sym late)
    ∙ ap (λ (k : ℕ). behind app (todo.Move variable ticks n k ∷ todo.Act (action.Enter section.Timer
    (handle_section_cost app)) ∷ []) later old.vars (contents st)) (sym told)
    ∙ ap (λ (k : ℕ). behind app (todo.Move variable ticks n h ∷ todo.Act (action.Enter section.Timer k) ∷ []) later
    old.vars (contents st)) (sym takes))

-- a binding
pub bound_calc : (app : App) (x : ℕ) (v : Value) (e : Expression) (n : ℕ) (old new : Work) (s : Store)
    → v ≡ Calc e → n ≡ value_in old.vars (contents s) e
    → new ≡ made old.todos (set old.vars x n) → Becomes app (bind app x v) old s new s
bound_calc app x v e n old new s is value written =
    variable_set app (bind app x v) old new s x n written
    (λ later. ap (λ (w : Value). bind app x w later old.vars (contents s)) is
    ∙ ap (λ (k : ℕ). later (set old.vars x k) (contents s)) (sym value))

pub bound_now : (app : App) (x : ℕ) (v : Value) (at : ℕ) (old new : Work) (s : Store) → v ≡ Now at
    → new ≡ with_todos old (todo.Clock (reading.Bind x) ∷ [])
    → Becomes app (bind app x v) old s new s
unfolding behind
bound_now app x v at old new s is grown =
    pushed app (bind app x v) old new s _ grown (λ later. ap (λ (w : Value). bind app x w later old.vars (contents
    s)) is)

pub bound_call : (app : App) (x : ℕ) (v : Value) (call : Spawn) (old new : Work) (s : Store) → v ≡ Call call
    → Becomes app (make_spawn app (Some x) call) old s new s
    → Becomes app (bind app x v) old s new s
bound_call app x v call old new s is h =
    as_other app (make_spawn app (Some x) call) (bind app x v) old new s s (λ later. ap (λ (w : Value). bind app x w
    later old.vars (contents s)) is) h

-- an assignment
pub assigned_variable : (app : App) (a : Atom) (n x : ℕ) (old new : Work) (s : Store) → a ≡ atom.Var x
    → new ≡ made old.todos (set old.vars x n)
    → Becomes app (assign a n) old s new s
assigned_variable app a n x old new s is written =
    variable_set app (assign a n) old new s x n written (λ later. ap (λ (b : Atom). assign b n later old.vars
    (contents s)) is)

pub assigned_shared : (app : App) (a : Atom) (n r : ℕ) (w : Work) (s t : Store) → a ≡ atom.Shared r
    → contents t ≡ values_with (contents s) (Guarded (section.Res r)) (Number n)
    → Becomes app (assign a n) w s w t
assigned_shared app a n r w s t is put =
    content_set app (assign a n) w s t
    (λ later. ap (λ (b : Atom). assign b n later w.vars (contents s)) is
    ∙ ap (λ (vs : Values). later w.vars vs) (sym put))

pub assigned_local : (app : App) (a : Atom) (n l : ℕ) (w : Work) (s t : Store) → a ≡ atom.Local l
    → contents t ≡ values_with (contents s) (Own l) (Number n)
    → Becomes app (assign a n) w s w t
assigned_local app a n l w s t is put =
    content_set app (assign a n) w s t
    (λ later. ap (λ (b : Atom). assign b n later w.vars (contents s)) is
    ∙ ap (λ (vs : Values). later w.vars vs) (sym put))

-- the turns of a loop
pub turns_over : (app : App) (x next last : ℕ) (turn : Later → Later) (old new : Work) (s : Store) → last ≤ next
    → new ≡ made old.todos (set old.vars x next)
    → Becomes app (turns_from (last - next) x next turn) old s new s
turns_over app x next last turn old new s over written =
    let none : last - next ≡ 0 = omega arith in
    variable_set app (turns_from (last - next) x next turn) old new s x next written
    (λ later. ap (λ (k : ℕ). turns_from k x next turn later old.vars (contents s)) none)

pub turns_more : (app : App) (x next last : ℕ) (stmts : Bor (List Stmt)) (old mid new : Work) (s : Store) → next < last
    → mid ≡ with_todos old (todo.Turns x (next + 1) last stmts ∷ todo.Run stmts ∷ [])
    → new ≡ made mid.todos (set mid.vars x next)
    → Becomes app (turns_from (last - next) x next (run_block app (block_of stmts.now))) old s new s
unfolding behind
turns_more app x next last stmts old mid new s more pushes written =
    let one : last - next ≡ suc (last - (next + 1)) = omega arith in
    let after : suc next ≡ next + 1 = omega arith in
    grown app _ old new s (todo.Turns x (next + 1) last stmts ∷ todo.Run stmts ∷ []) (set old.vars x next)
    (written ∙ ap (λ (w : Work). made w.todos (set w.vars x next)) pushes)
    (λ later.
    ap (λ (k : ℕ). turns_from k x next (run_block app (block_of stmts.now)) later old.vars (contents s)) one
    ∙ ap (λ (i : ℕ). run_block app (block_of stmts.now) (turns_from (last - (next + 1)) x i (run_block app
    (block_of stmts.now)) later) (set old.vars x next) (contents s)) after)

-- a section of a resource
pub lock_begun : (app : App) (s : Statement) (r at cost : ℕ) (inner : Bor (List Stmt)) (old new : Work) (st :
    Store) → s ≡ Locked r (block_of inner.now) at
    → cost ≡ lock_cost (block_cost (cost_measure app) (block_of inner.now))
    → new ≡ with_todos old (todo.Act (action.Leave (section.Res r)) ∷ todo.Run inner ∷ todo.Act (action.Enter
    (section.Res r) cost) ∷ [])
    → Becomes app (run app s) old st new st
unfolding behind
lock_begun app s r at cost inner old new st is takes pushes =
    pushed app (run app s) old new st _ pushes
    (λ later.
    ap (λ (x : Statement). run app x later old.vars (contents st)) is
    ∙ ap (λ (c : ℕ). behind app (todo.Act (action.Leave (section.Res r)) ∷ todo.Run inner ∷ todo.Act (action.Enter
    (section.Res r) c) ∷ []) later old.vars (contents st)) (sym takes))

-- the cost of a lock by the measure of the code
pub lock_takes : (app : App) (m : Measure) (s : Statement) (r at cost : ℕ) (inner : Block) → m ≡ cost_measure app
    → s ≡ Locked r inner at → cost ≡ statement_cost m s
    → cost ≡ lock_cost (block_cost (cost_measure app) inner)
lock_takes app m s r at cost inner e is takes = takes ∙ ap (λ (x : Statement). statement_cost m x) is
    ∙ ap (λ (k : Measure). lock_cost (block_cost k inner)) e

-- a choice between two blocks
pub chosen : (app : App) (s : Statement) (e : Expression) (n : ℕ) (first second : Bor (List Stmt)) (old new : Work)
    (st : Store)
    → s ≡ Branch e (block_of first.now) (block_of second.now) → n ≡ value_in old.vars (contents st) e
    → new ≡ with_todos old (todo.Run (if n == 0 then second else first) ∷ []) → Becomes app (run app s) old st new st
unfolding behind
chosen app s e n first second old new st is value pushes =
    pushed app (run app s) old new st _ pushes
    (λ later.
    ap (λ (x : Statement). run app x later old.vars (contents st)) is
    ∙ ap (λ (k : ℕ). (if k == 0 then run_block app (block_of second.now) later old.vars (contents st) else
    run_block app (block_of first.now) later old.vars (contents st))) (sym value)
    ∙ same (n == 0) later)
  where
    same : (b : Bool) (later : Later)
        → (if b then run_block app (block_of second.now) later old.vars (contents st) else run_block app (block_of
        first.now) later old.vars (contents st))
        ≡ behind app (todo.Run (if b then second else first) ∷ []) later old.vars (contents st)
    same true later = refl
    same false later = refl

pub loop_begun : (app : App) (s : Statement) (x first last : ℕ) (turn : Bor (List Stmt)) (old new : Work) (st :
    Store) → s ≡ Repeat x first last (block_of turn.now)
    → new ≡ with_todos old (todo.Turns x first last turn ∷ []) → Becomes app (run app s) old st new st
unfolding behind
loop_begun app s x first last turn old new st is pushes =
    pushed app (run app s) old new st _ pushes (λ later. ap (λ (y : Statement). run app y later old.vars (contents
    st)) is)

pub emitted : (app : App) (s : Statement) (e : Expression) (n : ℕ) (old new : Work) (st : Store) → s ≡ Emit e
    → n ≡ value_in old.vars (contents st) e
    → new ≡ with_todos old (todo.Act (action.Emit n) ∷ []) → Becomes app (run app s) old st new st
unfolding behind
emitted app s e n old new st is value pushes =
    pushed app (run app s) old new st _ pushes
    (λ later.
    ap (λ (y : Statement). run app y later old.vars (contents st)) is
    ∙ ap (λ (k : ℕ). behind app (todo.Act (action.Emit k) ∷ []) later old.vars (contents st)) (sym value))

pub pended : (app : App) (s : Statement) (i n : ℕ) (old new : Work) (st : Store) → s ≡ Pend i
    → n ≡ or_zero (irq_number app i)
    → new ≡ with_todos old (todo.Act (action.Post n) ∷ []) → Becomes app (run app s) old st new st
unfolding behind
pended app s i n old new st is number pushes =
    pushed app (run app s) old new st _ pushes
    (λ later.
    ap (λ (y : Statement). run app y later old.vars (contents st)) is
    ∙ ap (λ (k : ℕ). behind app (todo.Act (action.Post k) ∷ []) later old.vars (contents st)) (sym number))

-- the first of statements, and those behind it
pub block_begun : (app : App) (all : List Stmt) (first : Stmt) (rest : Bor (List Stmt)) (old mid new : Work) (s t :
    Store) → all ≡ first ∷ rest.now
    → mid ≡ with_todos old (todo.Run rest ∷ []) → Becomes app (run app (statement_of first)) mid s new t
    → Becomes app (run_block app (block_of all)) old s new t
unfolding behind
block_begun app all first rest old mid new s t is pushes h = record {
  same = λ later.
      ap (λ (ss : List Stmt). run_block app (block_of ss) (behind app old.todos later) old.vars (contents s)) is
      ∙ ap (λ (l : Later). run app (statement_of first) l old.vars (contents s)) (sym (behind_more app old.todos
      (todo.Run rest ∷ []) later))
      ∙ ap (λ (w : Work). run app (statement_of first) (behind app w.todos later) w.vars (contents s)) (sym pushes)
      ∙ h.same later;
}
