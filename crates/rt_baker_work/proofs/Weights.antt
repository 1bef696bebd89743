-- What there is to do weighs, as things come on top and as silent things are taken up.
use Rattle.std.proofs.Common.{◌≡◌, ℕ, zero, suc, ◌+◌, ◌-◌, ◌*◌, ◌<◌, ◌≤◌, ◌==◌, Bool, true, false, List, [], ◌∷◌, ◌++◌}
use Rattle.std.proofs.Common.{Some, Bor, set, refl, ap, ◌∙◌, sym, subst, arith, if◌then◌else◌}
use Rattle.std.specs.List.{slice_get}
use Rattle.std.proofs.lemmas.Option.{same_Some, none-some}
use Rattle.rt_ids.specs.Lists.{then_from}
use Rattle.rt_actions.specs.Content.{Message}
use Rattle.rt_ids.specs.declared.ids.Section.TheVariants as section
use Rattle.rt_app.specs.declared.stmt.Stmt.{Stmt}
use Rattle.rt_app.specs.Tree.{Body, Block, Empty, Then, Statement, Branch, Locked, Expression, Task, App}
use Rattle.rt_app.specs.View.{statement_of, block_of}
use Rattle.rt_baker_work.specs.declared.action.Action.TheVariants as action
use Rattle.rt_baker_work.specs.declared.todo.Todo.{Todo}
use Rattle.rt_baker_work.specs.declared.todo.Todo.TheVariants as todo
use Rattle.rt_baker_work.specs.Todo.{task_body}
use Rattle.rt_baker_work.specs.Work.{Work, is_seen}
use Rattle.rt_baker_work.specs.Inside.Weights.{turns_weight, statement_weight, block_weight, bodies_weight, weight}
use Rattle.rt_baker_work.specs.Inside.Weights.{weights}
use Rattle.rt_baker_work.proofs.Walks.{made, with_todos}
use Rattle.rt_baker_work.proofs.Beginning.{served, reposted}

weights_more : (app : App) (ts us : List Todo) → weights app (ts ++ us) ≡ weights app ts + weights app us
weights_more app [] us = omega arith
weights_more app (t ∷ ts) us = omega (arith, weights_more app ts us)

-- with these things on top, whatever the variables are
grown_weighs : (app : App) (old new : Work) (ts : List Todo) (vars : List ℕ) → new ≡ made (old.todos ++ ts) vars
    → weights app new.todos ≡ weights app old.todos + weights app ts
grown_weighs app old new ts vars is = ap (λ (w : Work). weights app w.todos) is ∙ weights_more app old.todos ts

pub pushed_weighs : (app : App) (old new : Work) (ts : List Todo) → new ≡ with_todos old ts
    → weights app new.todos ≡ weights app old.todos + weights app ts
pushed_weighs app old new ts is = grown_weighs app old new ts old.vars is

pub pushed_light : (app : App) (old new : Work) (ts : List Todo) (n : ℕ) → new ≡ with_todos old ts
    → weights app ts ≡ n → weights app new.todos ≤ weights app old.todos + n
pushed_light app old new ts n is weighs = omega (arith, pushed_weighs app old new ts is)

-- a variable has another value
pub same_weight : (app : App) (old new : Work) (vars : List ℕ) → new ≡ made old.todos vars
    → weights app new.todos ≡ weights app old.todos
same_weight app old new vars is = ap (λ (w : Work). weights app w.todos) is

-- the body of a task is one of all the bodies
light_at : (tasks : List Task) (n : ℕ) (b : Body)
    → then_from (slice_get tasks n) (λ (t : Task). Some t.body) ≡ Some b → block_weight b.block ≤ bodies_weight tasks
light_at [] n b at = absurd (none-some b at)
light_at (t ∷ tasks) zero b at = omega (arith, ap (λ (c : Body). block_weight c.block) (same_Some t.body b at))
light_at (t ∷ tasks) (suc n) b at = omega (arith, light_at tasks n b at)

pub begun_light : (app : App) (m : Message) (b : Body) (block : Bor (List Stmt)) (old new : Work) (vars : List ℕ)
    → task_body app m.task ≡ Some b → b.block ≡ block_of block.now
    → new ≡ made (old.todos ++ todo.Run block ∷ []) vars
    → weights app new.todos ≤ weights app old.todos + bodies_weight app.tasks
begun_light app m b block old new vars found is made_so =
    omega (
      arith,
      grown_weighs app old new (todo.Run block ∷ []) vars made_so,
      light_at app.tasks m.task b found,
      ap block_weight is,
    )

reposted_weighs : (app : App) (p : ℕ) (last : Bool) → weights app (reposted app p last) ≡ 0
reposted_weighs app p true = refl
reposted_weighs app p false = refl

pub message_light : (app : App) (p : ℕ) (m n : Message) (last : Bool) (old a b c new : Work)
    → a ≡ with_todos old (served m) → b ≡ with_todos a (todo.Act (action.Leave (section.Ready p)) ∷ [])
    → c ≡ with_todos b (reposted app p last) → new ≡ with_todos c (todo.Act (action.Start p n) ∷ [])
    → weights app new.todos ≤ weights app old.todos + (bodies_weight app.tasks + 1)
message_light app p m n last old a b c new e f g h =
    omega (
      arith,
      pushed_weighs app old a (served m) e,
      pushed_weighs app a b (todo.Act (action.Leave (section.Ready p)) ∷ []) f,
      pushed_weighs app b c (reposted app p last) g,
      reposted_weighs app p last,
      pushed_weighs app c new (todo.Act (action.Start p n) ∷ []) h,
    )

-- a turn of a loop, and the turns behind it
turn_weighs : (k b : ℕ) → turns_weight k b + (b + 0) ≡ suc k * (b + 1)
turn_weighs k b = grind arith

pub turn_light : (app : App) (x next last : ℕ) (stmts : Bor (List Stmt)) (old mid new : Work) → next < last
    → mid ≡ with_todos old (todo.Turns x (next + 1) last stmts ∷ todo.Run stmts ∷ [])
    → new ≡ made mid.todos (set mid.vars x next)
    → weights app new.todos ≤ weights app old.todos + (last - next) * (block_weight (block_of stmts.now) + 1)
turn_light app x next last stmts old mid new more pushes written =
    let b = block_weight (block_of stmts.now) in
    let one : last - next ≡ suc (last - (next + 1)) = omega arith in
    let pushed : weights app mid.todos ≡ weights app old.todos + (turns_weight (last - (next + 1)) b + (b + 0)) =
    pushed_weighs app old mid (todo.Turns x (next + 1) last stmts ∷ todo.Run stmts ∷ []) pushes in
    let least : weights app new.todos ≡ weights app old.todos + (last - next) * (b + 1) =
    same_weight app mid new (set mid.vars x next) written ∙ pushed
    ∙ ap (λ (n : ℕ). weights app old.todos + n) (turn_weighs (last - (next + 1)) b ∙ ap (λ (n : ℕ). n * (b + 1)) (sym
    one)) in
    omega arith

-- a statement that is told otherwise
pub statement_light : (app : App) (s t : Statement) (old new : Work) → s ≡ t
    → weights app new.todos ≤ weights app old.todos + statement_weight t
    → weights app new.todos ≤ weights app old.todos + statement_weight s
statement_light app s t old new is light =
    subst (λ (u : Statement). weights app new.todos ≤ weights app old.todos + statement_weight u) (sym is) light

pub chosen_light : (app : App) (s : Statement) (e : Expression) (n : ℕ) (first second : Bor (List Stmt))
    (old new : Work) → s ≡ Branch e (block_of first.now) (block_of second.now)
    → new ≡ with_todos old (todo.Run (if n == 0 then second else first) ∷ [])
    → weights app new.todos ≤ weights app old.todos + statement_weight s
chosen_light app s e n first second old new is pushes =
    omega (
      arith,
      ap statement_weight is,
      pushed_weighs app old new (todo.Run (if n == 0 then second else first) ∷ []) pushes,
      either (n == 0),
    )
  where
    either : (b : Bool) → weight app (todo.Run (if b then second else first))
        ≤ block_weight (block_of first.now) + block_weight (block_of second.now)
    either true = omega arith
    either false = omega arith

pub turns_light : (app : App) (s : Statement) (x first last : ℕ) (turn : Bor (List Stmt)) (old new : Work)
    → statement_weight s ≡ turns_weight (last - first) (block_weight (block_of turn.now))
    → new ≡ with_todos old (todo.Turns x first last turn ∷ [])
    → weights app new.todos ≤ weights app old.todos + statement_weight s
turns_light app s x first last turn old new is pushes =
    omega (arith, pushed_weighs app old new (todo.Turns x first last turn ∷ []) pushes)

pub lock_light : (app : App) (s : Statement) (r at cost : ℕ) (inner : Bor (List Stmt)) (old new : Work)
    → s ≡ Locked r (block_of inner.now) at
    → new ≡ with_todos old (todo.Act (action.Leave (section.Res r)) ∷ todo.Run inner ∷ todo.Act (action.Enter
    (section.Res r) cost) ∷ [])
    → weights app new.todos ≤ weights app old.todos + statement_weight s
lock_light app s r at cost inner old new is pushes =
    omega (
      arith,
      ap statement_weight is,
      pushed_weighs app old new (todo.Act (action.Leave (section.Res r)) ∷ todo.Run inner ∷ todo.Act (action.Enter
          (section.Res r) cost) ∷ []) pushes,
    )

-- the first of statements, and those behind it
pub block_light : (app : App) (all : List Stmt) (first : Stmt) (rest : Bor (List Stmt)) (old mid new : Work)
    → all ≡ first ∷ rest.now → mid ≡ with_todos old (todo.Run rest ∷ [])
    → weights app new.todos ≤ weights app mid.todos + statement_weight (statement_of first)
    → weights app new.todos ≤ weights app old.todos + (block_weight (block_of all) - 1)
block_light app all first rest old mid new is pushes light =
    omega (
      arith,
      ap (λ (ss : List Stmt). block_weight (block_of ss)) is,
      pushed_weighs app old mid (todo.Run rest ∷ []) pushes,
    )

-- a thing to do that is told otherwise
pub taken_light : (app : App) (t u : Todo) (old new : Work) → t ≡ u
    → weights app new.todos ≤ weights app old.todos + (weight app u - 1)
    → weights app new.todos ≤ weights app old.todos + (weight app t - 1)
taken_light app t u old new is light =
    subst (λ (v : Todo). weights app new.todos ≤ weights app old.todos + (weight app v - 1)) (sym is) light

-- what is silent weighs something
block_weighs : (b : Block) → 1 ≤ block_weight b
block_weighs Empty = omega arith
block_weighs (Then s rest) = omega arith

silent_weighs : (app : App) (t : Todo) → is_seen t ≡ false → 1 ≤ weight app t
silent_weighs app (todo.Run stmts) silent = block_weighs (block_of stmts.now)
silent_weighs app (todo.Turns x i last stmts) silent = omega arith
silent_weighs app (todo.Set x n) silent = omega arith
silent_weighs app (todo.Place variable delay m) silent = omega arith
silent_weighs app (todo.Dispatch p) silent = omega arith
silent_weighs app (todo.Begin m) silent = omega arith
silent_weighs app (todo.Due time) silent = omega arith
silent_weighs app (todo.Handle x) silent = omega arith
silent_weighs app (todo.Cancel variable n handle) silent = omega arith
silent_weighs app (todo.Move variable delay n handle) silent = omega arith
silent_weighs app (todo.Act a) silent = absurd cc
silent_weighs app (todo.Clock r) silent = absurd cc

pub step_lighter : (app : App) (t : Todo) (w mid new : Work) → w ≡ with_todos mid (t ∷ []) → is_seen t ≡ false
    → weights app new.todos ≤ weights app mid.todos + (weight app t - 1) → weights app new.todos < weights app w.todos
step_lighter app t w mid new is silent light =
    omega (arith, pushed_weighs app mid w (t ∷ []) is, silent_weighs app t silent)
