-- The statements of a body, with numbers in place of names: a variable is its index among the arguments, `let` and
-- `for` statements of the body in order of the text. The language is this project's own; blocks nest as in Rust, but a
-- name in scope is not declared again.
use Rattle.std.specs.Prelude.{ℕ, ◌+◌, map}
use Rattle.rt_ast.specs.declared.ident.Ident.{Ident}
use Rattle.rt_ast.specs.Tree as written
use Rattle.rt_ast.specs.Tree.{Statement, Bind, Assign, Branch, Repeat, Locked, Emit, Pend, Spawns, Block, Empty, Then}
use Rattle.rt_app.specs.Tree as tree
use Rattle.rt_resolve.specs.Scope.{Names, irq_named, task_named, shared_resource_named, or_unknown, inside}
use Rattle.rt_resolve.specs.Scope.{with_variable}
use Rattle.rt_resolve.specs.Scope.{atom_named}

-- an expression with what its names stand for
abbrev pub expression : Names → written.Expression → tree.Expression
expression names (written.Num n) = tree.Num n
expression names (written.Read x) = tree.Read (atom_named names x.name) x.at
expression names (written.Oper o left right) = tree.Oper o (expression names left) (expression names right)

-- a spawn, a cancel or a reschedule with the number of its task, and its expressions with what their names stand for
abbrev pub spawn : Names → written.Spawn → tree.Spawn
spawn names (written.Soon task args) =
    tree.Soon (or_unknown (task_named names.app task.name)) (map (expression names) args) task.at
spawn names (written.After word delay task args) =
    tree.After word (expression names delay) (or_unknown (task_named names.app task.name))
    (map (expression names) args) task.at
spawn names (written.Cancel word task handle) =
    tree.Cancel word (or_unknown (task_named names.app task.name)) (expression names handle) task.at
spawn names (written.Move word delay task handle) =
    tree.Move word (expression names delay) (or_unknown (task_named names.app task.name)) (expression names handle)
    task.at

-- the value of a `let` with what its names stand for
abbrev pub value : Names → written.Value → tree.Value
value names (written.Calc e) = tree.Calc (expression names e)
value names (written.Now at) = tree.Now at
value names (written.Call s) = tree.Call (spawn names s)

-- the variables that a statement brings in
abbrev mutual
  pub binders_in : Statement → ℕ
  binders_in (Bind x v) = 1
  binders_in (Assign x e) = 0
  binders_in (Branch e first second) = binders first + binders second
  binders_in (Repeat x first last turn) = 1 + binders turn
  binders_in (Locked r inner) = binders inner
  binders_in (Emit e) = 0
  binders_in (Pend i) = 0
  binders_in (Spawns s) = 0

  -- the variables that a block brings in, those of inner blocks included
  pub binders : Block → ℕ
  binders Empty = 0
  binders (Then s rest) = binders_in s + binders rest

-- the names names_after a statement that so many variables stand before: a `let` holds to the end of its block
abbrev pub names_after : Names → ℕ → Statement → Names
names_after names n (Bind x v) = with_variable names x n
names_after names n (Assign x e) = names
names_after names n (Branch e first second) = names
names_after names n (Repeat x first last turn) = names
names_after names n (Locked r inner) = names
names_after names n (Emit e) = names
names_after names n (Pend i) = names
names_after names n (Spawns s) = names

-- the names in the block of a `for`
abbrev pub in_loop : Names → Ident → ℕ → Names
in_loop names x n = inside (with_variable (inside names) x n)

-- a statement, and a block, that so many variables stand before
abbrev mutual
  pub statement : Names → ℕ → Statement → tree.Statement
  statement names n (Bind x v) = tree.Bind n (value names v)
  statement names n (Assign x e) = tree.Assign (atom_named names x.name) (expression names e) x.at
  statement names n (Branch e first second) =
      tree.Branch (expression names e) (block (inside names) n first) (block (inside names) (n + binders first) second)
  statement names n (Repeat x first last turn) = tree.Repeat n first last (block (in_loop names x n) (n + 1) turn)
  statement names n (Locked r inner) =
      tree.Locked (or_unknown (shared_resource_named names.app r.name)) (block (inside names) n inner) r.at
  statement names n (Emit e) = tree.Emit (expression names e)
  statement names n (Pend i) = tree.Pend (or_unknown (irq_named names.app i.name))
  statement names n (Spawns s) = tree.Spawns (spawn names s)

  -- the statements of a block, each with the names that hold names_after those before it
  pub block : Names → ℕ → Block → tree.Block
  block names n Empty = tree.Empty
  block names n (Then s rest) = tree.Then (statement names n s) (block (names_after names n s) (n + binders_in s) rest)
