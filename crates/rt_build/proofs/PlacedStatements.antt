-- The statements of a body whose names are all known are placed.
use Rattle.std.proofs.Common.{◌≡◌, ℕ, ◌+◌, ◌<◌, List, [], ◌∷◌, ◌++◌, length, map, flat_map, refl, sym, ap, subst}
use Rattle.std.specs.List.{AllByRecursion}
use Rattle.rt_lemmas.proofs.Lists.{append_none_left, append_none_right}
use Rattle.rt_lemmas.proofs.Membership.{contains_here}
use Rattle.rt_ast.specs.declared.ident.Ident.{Ident}
use Rattle.rt_ast.specs.Tree.{App, Expression, Num, Read, Oper, Spawn, Soon, After, Cancel, Move, Value, Calc, Now}
use Rattle.rt_ast.specs.Tree.{Call, Statement, Bind, Assign, Branch, Repeat, Locked, Emit, Pend, Spawns, Block}
use Rattle.rt_ast.specs.Tree.{Empty, Then}
use Rattle.rt_app.specs.declared.violation.Violation.{Violation}
use Rattle.rt_app.specs.Variables.{variables, variables_in}
use Rattle.rt_app.specs.Accepted as accepted
use Rattle.rt_app.specs.Accepted.{AreMeant, IsSpawnPlaced, IsValuePlaced, IsStatementPlaced, IsBlockPlaced}
use Rattle.rt_resolve.specs.Scope.{task_named, shared_resource_named, or_unknown, Names, inside, with_variable, meaning}
use Rattle.rt_resolve.specs.Resolving.{expression, spawn, value, statement, block, binders_in, binders, names_after}
use Rattle.rt_resolve.specs.Resolving.{in_loop}
use Rattle.rt_resolve.specs.Resolved.{resolved_app}
use Rattle.rt_resolve.specs.Misnamed.{if_unknown, if_taken, expression_faults, call_faults, message_faults}
use Rattle.rt_resolve.specs.Misnamed.{spawn_faults, value_faults, statement_faults, block_faults}
use Rattle.rt_build.proofs.PlacedNames.{irq_placed, task_placed, shared_placed, AreSeen, seen_more, declared_seen}
use Rattle.rt_build.proofs.PlacedNames.{listed_by, listings, meant}

module _ (names : Names) (visible : List ℕ) (seen : AreSeen visible names.scope.variables) where
  pub expression_meant : (e : Expression) → expression_faults names e ≡ []
      → AreMeant (resolved_app names.app) (listings names) visible (expression names e)
  expression_meant (Num n) fine = tt
  expression_meant (Read x) fine = meant names visible seen x.name x.at fine
  expression_meant (Oper o left right) fine = (
    expression_meant left (append_none_left (expression_faults names left) (expression_faults names right) fine),
    expression_meant right (append_none_right (expression_faults names left) (expression_faults names right)
        fine),
  )

  expressions_meant : (es : List Expression) → flat_map (expression_faults names) es ≡ []
      → AllByRecursion (AreMeant (resolved_app names.app) (listings names) visible) (map (expression names) es)
  expressions_meant [] fine = tt
  expressions_meant (e ∷ es) fine = (
    expression_meant e (append_none_left (expression_faults names e) (flat_map (expression_faults names) es) fine),
    expressions_meant es (append_none_right (expression_faults names e) (flat_map (expression_faults names) es)
        fine),
  )

  call_placed : (t : Ident) (args : List Expression) → call_faults names t args ≡ []
      → (or_unknown (task_named names.app t.name) < length (resolved_app names.app).tasks)
      × AllByRecursion (AreMeant (resolved_app names.app) (listings names) visible) (map (expression names) args)
  call_placed t args fine = (
    task_placed names.app t.name t.at (append_none_left task_fault arg_faults fine),
    expressions_meant args (append_none_right task_fault arg_faults fine),
  )
    where
      task_fault : List Violation
      task_fault = if_unknown (task_named names.app t.name) t.at

      arg_faults : List Violation
      arg_faults = flat_map (expression_faults names) args

  message_placed : (t : Ident) (handle : Expression) → message_faults names t handle ≡ []
      → (or_unknown (task_named names.app t.name) < length (resolved_app names.app).tasks)
      × AreMeant (resolved_app names.app) (listings names) visible (expression names handle)
  message_placed t handle fine = (
    task_placed names.app t.name t.at
        (append_none_left (if_unknown (task_named names.app t.name) t.at) (expression_faults names handle) fine),
    expression_meant handle
        (append_none_right (if_unknown (task_named names.app t.name) t.at) (expression_faults names handle) fine),
  )

  pub spawn_placed : (s : Spawn) → spawn_faults names s ≡ [] → IsSpawnPlaced (resolved_app names.app) (listings names)
      visible (spawn names s)
  spawn_placed (Soon t args) fine = call_placed t args fine
  spawn_placed (After word delay t args) fine =
      let call = call_placed t args (append_none_right (expression_faults names delay) (call_faults names t args) fine)
      in (
        expression_meant delay (append_none_left (expression_faults names delay) (call_faults names t args) fine),
        call.0,
        call.1,
      )
  spawn_placed (Cancel word t handle) fine = message_placed t handle fine
  spawn_placed (Move word delay t handle) fine =
      let message = message_placed t handle
      (append_none_right (expression_faults names delay) (message_faults names t handle) fine) in (
        expression_meant delay (append_none_left (expression_faults names delay) (message_faults names t handle) fine),
        message.0,
        message.1,
      )

  pub value_placed : (v : Value) → value_faults names v ≡ [] → IsValuePlaced (resolved_app names.app) (listings names)
      visible (value names v)
  value_placed (Calc e) fine = expression_meant e fine
  value_placed (Now at) fine = tt
  value_placed (Call s) fine = spawn_placed s fine

-- a statement brings in as many variables as it is written with
mutual
  same_variables_in : (s : Statement) (names : Names) (n : ℕ) → variables_in (statement names n s) ≡ binders_in s
  same_variables_in (Bind x v) names n = refl
  same_variables_in (Assign x e) names n = refl
  same_variables_in (Branch e first second) names n = rw (
    same_variables first (inside names) n,
    same_variables second (inside names) (n + binders first),
  ) refl
  same_variables_in (Repeat x first last turn) names n = ap (λ k. 1 + k)
      (same_variables turn (in_loop names x n) (n + 1))
  same_variables_in (Locked r inner) names n = same_variables inner (inside names) n
  same_variables_in (Emit e) names n = refl
  same_variables_in (Pend i) names n = refl
  same_variables_in (Spawns s) names n = refl

  same_variables : (b : Block) (names : Names) (n : ℕ) → variables (block names n b) ≡ binders b
  same_variables Empty names n = refl
  same_variables (Then s rest) names n = rw (
    same_variables_in s names n,
    same_variables rest (names_after names n s) (n + binders_in s),
  ) refl

-- what is said of the tree and of what a body lists holds before a statement
before : (P : App → List Ident → Type 0) (names : Names) (n : ℕ) (s : Statement)
    → P (names_after names n s).app (names_after names n s).local → P names.app names.local
before P names n (Bind x v) h = h
before P names n (Assign x e) h = h
before P names n (Branch e first second) h = h
before P names n (Repeat x first last turn) h = h
before P names n (Locked r inner) h = h
before P names n (Emit e) h = h
before P names n (Pend i) h = h
before P names n (Spawns s) h = h

-- a variable that is declared has its number, and those before have theirs
with_seen : (names : Names) (visible : List ℕ) (x : Ident) (n : ℕ) → AreSeen visible names.scope.variables
    → AreSeen (n ∷ visible) (with_variable names x n).scope.variables
with_seen names visible x n seen = declared_seen (n ∷ visible) names.scope x.name n (contains_here n visible)
    (seen_more n visible names.scope.variables seen)

behind_seen : (names : Names) (n : ℕ) (visible : List ℕ) → AreSeen visible names.scope.variables → (s : Statement)
    → AreSeen (accepted.visible_after (resolved_app names.app) (listings names) n visible (statement names n s))
    (names_after names n s).scope.variables
behind_seen names n visible seen (Bind x v) = with_seen names visible x n seen
behind_seen names n visible seen (Assign x e) = seen
behind_seen names n visible seen (Branch e first second) = seen
behind_seen names n visible seen (Repeat x first last turn) = seen
behind_seen names n visible seen (Locked r inner) = seen
behind_seen names n visible seen (Emit e) = seen
behind_seen names n visible seen (Pend i) = seen
behind_seen names n visible seen (Spawns s) = seen

mutual
  statement_placed : (s : Statement) (names : Names) (n : ℕ) (visible : List ℕ) → AreSeen visible names.scope.variables
      → statement_faults names n s ≡ [] → IsStatementPlaced (resolved_app names.app) (listings names) n visible
      (statement names n s)
  statement_placed (Bind x v) names n visible seen fine =
      (refl, value_placed names visible seen v (append_none_left (value_faults names v) (if_taken names x) fine))
  statement_placed (Assign x e) names n visible seen fine =
      let at = if_unknown (meaning names x.name) x.at in (
        meant names visible seen x.name x.at (append_none_left at (expression_faults names e) fine),
        expression_meant names visible seen e (append_none_right at (expression_faults names e) fine),
      )
  statement_placed (Branch e first second) names n visible seen fine =
      let on_first = block_faults (inside names) n first in
      let on_second = block_faults (inside names) (n + binders first) second in
      let blocks = append_none_right (expression_faults names e) (on_first ++ on_second) fine in
      let placed_second = block_placed second (inside names) (n + binders first) visible seen
      (append_none_right on_first on_second blocks) in (
        expression_meant names visible seen e (append_none_left (expression_faults names e) (on_first ++ on_second)
            fine),
        block_placed first (inside names) n visible seen (append_none_left on_first on_second blocks),
        subst (λ k. IsBlockPlaced (resolved_app names.app) (listings names) (n + k) visible
            (block (inside names) (n + binders first) second)) (sym (same_variables first (inside names) n))
            placed_second,
      )
  statement_placed (Repeat x first last turn) names n visible seen fine = (
    refl,
    block_placed turn (in_loop names x n) (n + 1) (n ∷ visible) (with_seen (inside names) visible x n seen)
        (append_none_right (if_taken names x) (block_faults (in_loop names x n) (n + 1) turn) fine),
  )
  statement_placed (Locked r inner) names n visible seen fine =
      let at = if_unknown (shared_resource_named names.app r.name) r.at in (
        shared_placed names.app r.name r.at (append_none_left at (block_faults (inside names) n inner) fine),
        block_placed inner (inside names) n visible seen
            (append_none_right at (block_faults (inside names) n inner) fine),
      )
  statement_placed (Emit e) names n visible seen fine = expression_meant names visible seen e fine
  statement_placed (Pend i) names n visible seen fine = irq_placed names.app i.name i.at fine
  statement_placed (Spawns s) names n visible seen fine = spawn_placed names visible seen s fine

  pub block_placed : (b : Block) (names : Names) (n : ℕ) (visible : List ℕ) → AreSeen visible names.scope.variables
      → block_faults names n b ≡ [] → IsBlockPlaced (resolved_app names.app) (listings names) n visible
      (block names n b)
  block_placed Empty names n visible seen fine = tt
  block_placed (Then s rest) names n visible seen fine =
      let on_rest = block_faults (names_after names n s) (n + binders_in s) rest in
      let wider = accepted.visible_after (resolved_app names.app) (listings names) n visible (statement names n s) in
      let placed_rest = block_placed rest (names_after names n s) (n + binders_in s) wider
      (behind_seen names n visible seen s) (append_none_right (statement_faults names n s) on_rest fine) in
      let of_app = before (λ a xs. IsBlockPlaced (resolved_app a) (listed_by a xs) (n + binders_in s) wider
      (block (names_after names n s) (n + binders_in s) rest)) names n s placed_rest in (
        statement_placed s names n visible seen (append_none_left (statement_faults names n s) on_rest fine),
        subst (λ k. IsBlockPlaced (resolved_app names.app) (listings names) (n + k) wider
            (block (names_after names n s) (n + binders_in s) rest)) (sym (same_variables_in s names n)) of_app,
      )
