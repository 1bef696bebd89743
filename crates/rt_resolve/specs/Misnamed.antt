-- The names in statements that are wrong: those that mean nothing there, and variables whose name is taken. The
-- language is this project's own; blocks nest as in Rust, but a name in scope is not declared again.
use Rattle.std.specs.Prelude.{ℕ, ◌+◌, ◌||◌, Bool, List, [], ◌++◌, flat_map, is_none, is_some, Option}
use Rattle.std.specs.List.{list_any}
use Rattle.rt_ids.specs.declared.rule.Rule.TheVariants as rule
use Rattle.rt_ast.specs.declared.ident.Ident.{Ident}
use Rattle.rt_ast.specs.Tree.{Expression, Num, Read, Oper, Spawn, Soon, After, Cancel, Move, Value, Calc, Now, Call}
use Rattle.rt_ast.specs.Tree.{Statement, Bind, Assign, Branch, Repeat, Locked, Emit, Pend, Spawns, Block, Empty, Then}
use Rattle.rt_app.specs.declared.violation.Violation.{Violation}
use Rattle.rt_app.specs.Violation.{when}
use Rattle.rt_resolve.specs.Scope.{Names, irq_named, task_named, shared_resource_named, local_named, is_variable}
use Rattle.rt_resolve.specs.Scope.{inside}
use Rattle.rt_resolve.specs.Scope.{meaning}
use Rattle.rt_resolve.specs.Resolving.{binders, binders_in, names_after, in_loop}

-- a name that is not found
abbrev pub if_unknown : {A : Type 0} → Option A → ℕ → List Violation
if_unknown found at = when (is_none found) rule.UnknownName at

-- whether a variable cannot have this name: a shared or local resource or a variable in scope has it
abbrev pub is_taken : Names → List ℕ → Bool
is_taken names name =
    is_some (shared_resource_named names.app name)
    || (is_some (local_named names.app name) || list_any (is_variable name) names.scope.variables)

-- a variable whose name is taken
abbrev pub if_taken : Names → Ident → List Violation
if_taken names x = when (is_taken names x.name) rule.DeclaredTwice x.at

-- the names in an expression that mean nothing there
abbrev pub expression_faults : Names → Expression → List Violation
expression_faults names (Num n) = []
expression_faults names (Read x) = if_unknown (meaning names x.name) x.at
expression_faults names (Oper o left right) = expression_faults names left ++ expression_faults names right

-- a task and the arguments of a message to it
abbrev pub call_faults : Names → Ident → List Expression → List Violation
call_faults names task args =
    if_unknown (task_named names.app task.name) task.at ++ flat_map (expression_faults names) args

-- a task and the handle of a message of it
abbrev pub message_faults : Names → Ident → Expression → List Violation
message_faults names task handle =
    if_unknown (task_named names.app task.name) task.at ++ expression_faults names handle

-- the wrong names of a spawn, a cancel or a reschedule, in order of the text
abbrev pub spawn_faults : Names → Spawn → List Violation
spawn_faults names (Soon task args) = call_faults names task args
spawn_faults names (After word delay task args) = expression_faults names delay ++ call_faults names task args
spawn_faults names (Cancel word task handle) = message_faults names task handle
spawn_faults names (Move word delay task handle) = expression_faults names delay ++ message_faults names task handle

-- the wrong names of the value of a `let`
abbrev pub value_faults : Names → Value → List Violation
value_faults names (Calc e) = expression_faults names e
value_faults names (Now at) = []
value_faults names (Call s) = spawn_faults names s

-- the wrong names of a statement, and of a block, that so many variables stand before
abbrev mutual
  pub statement_faults : Names → ℕ → Statement → List Violation
  statement_faults names n (Bind x v) = value_faults names v ++ if_taken names x
  statement_faults names n (Assign x e) = if_unknown (meaning names x.name) x.at ++ expression_faults names e
  statement_faults names n (Branch e first second) =
      expression_faults names e
      ++ (block_faults (inside names) n first ++ block_faults (inside names) (n + binders first) second)
  statement_faults names n (Repeat x first last turn) =
      if_taken names x ++ block_faults (in_loop names x n) (n + 1) turn
  statement_faults names n (Locked r inner) =
      if_unknown (shared_resource_named names.app r.name) r.at ++ block_faults (inside names) n inner
  statement_faults names n (Emit e) = expression_faults names e
  statement_faults names n (Pend i) = if_unknown (irq_named names.app i.name) i.at
  statement_faults names n (Spawns s) = spawn_faults names s

  -- the wrong names of a block, each statement judged with the variables before it
  pub block_faults : Names → ℕ → Block → List Violation
  block_faults names n Empty = []
  block_faults names n (Then s rest) =
      statement_faults names n s ++ block_faults (names_after names n s) (n + binders_in s) rest
