-- The applications that the code builds, as applications of the definitions.
use Rattle.std.specs.Prelude.{List, [], ◌∷◌, map, option_map}
use Rattle.rt_app.specs.Tree as tree
use Rattle.rt_app.specs.declared.expr.Expr.{Expr, Num, Read, Oper'}
use Rattle.rt_app.specs.declared.stmt.Spawn.{Spawn}
use Rattle.rt_app.specs.declared.stmt.Spawn.TheVariants as spawn
use Rattle.rt_app.specs.declared.stmt.Value.{Value}
use Rattle.rt_app.specs.declared.stmt.Value.TheVariants as value
use Rattle.rt_app.specs.declared.stmt.Stmt.{Stmt, Row_of-Stmt, end_of-Stmt, more_of-Stmt, Bind, Assign, Branch'}
use Rattle.rt_app.specs.declared.stmt.Stmt.{Repeat', Locked', Emit, Pend, Call}
use Rattle.rt_app.specs.declared.body.Body.{Body}
use Rattle.rt_app.specs.declared.app.Task.{Task}
use Rattle.rt_app.specs.declared.app.App.{App}

-- the expression that the code's tree of one is
abbrev pub expression_of : Expr → tree.Expression
expression_of (Num n) = tree.Num n
expression_of (Read atom at) = tree.Read atom at
expression_of (Oper' op p a q b) = tree.Oper op (expression_of a) (expression_of b)

-- the spawn, cancel or reschedule that the code's tree of one is
abbrev pub spawn_of : Spawn → tree.Spawn
spawn_of (spawn.Soon task args at) = tree.Soon task (map expression_of args.items) at
spawn_of (spawn.After word delay task args at) =
    tree.After word (expression_of delay) task (map expression_of args.items) at
spawn_of (spawn.Cancel word task handle at) = tree.Cancel word task (expression_of handle) at
spawn_of (spawn.Move word delay task handle at) =
    tree.Move word (expression_of delay) task (expression_of handle) at

-- the value of a `let` that the code's tree of one is
abbrev pub value_of : Value → tree.Value
value_of (value.Calc e) = tree.Calc (expression_of e)
value_of (value.Now at) = tree.Now at
value_of (value.Call s) = tree.Call (spawn_of s)

abbrev mutual
  -- the statement that the code's tree of one is
  pub statement_of : Stmt → tree.Statement
  statement_of (Bind x v) = tree.Bind x (value_of v)
  statement_of (Assign x e at) = tree.Assign x (expression_of e) at
  statement_of (Branch' e shape_a a shape_b b) = tree.Branch (expression_of e) (row_block a) (row_block b)
  statement_of (Repeat' x first last shape a) = tree.Repeat x first last (row_block a)
  statement_of (Locked' r shape a at) = tree.Locked r (row_block a) at
  statement_of (Emit e) = tree.Emit (expression_of e)
  statement_of (Pend i) = tree.Pend i
  statement_of (Call s) = tree.Spawns (spawn_of s)

  -- the block that a row of the code's statements is
  pub row_block : {n : _} → Row_of-Stmt n → tree.Block
  row_block end_of-Stmt = tree.Empty
  row_block (more_of-Stmt s rest) = tree.Then (statement_of s) (row_block rest)

-- the block that a list of the code's statements is
abbrev pub block_of : List Stmt → tree.Block
block_of [] = tree.Empty
block_of (s ∷ stmts) = tree.Then (statement_of s) (block_of stmts)

-- the body that the code's is, with what it lists
abbrev pub body_of : Body → tree.Body
body_of b = record { shared = b.shared.items; local = b.local.items; block = block_of b.block.items; at = b.at }

-- the task that the code's is
abbrev pub task_of : Task → tree.Task
task_of t = record {
  name = t.name;
  at = t.at;
  binds = t.binds;
  binds_at = t.binds_at;
  priority = t.priority;
  priority_at = t.priority_at;
  capacity = t.capacity;
  has_capacity = t.has_capacity;
  args = t.args;
  body = body_of t.body;
}

-- the application that the code's is
abbrev pub app_of : App → tree.App
app_of a = record {
  bits = a.bits;
  fpu = a.fpu;
  irqs = a.irqs.items;
  dispatchers = a.dispatchers.items;
  mono = a.mono;
  shared = a.shared.items;
  locals = a.locals.items;
  init = option_map body_of a.init;
  idle = option_map body_of a.idle;
  tasks = map task_of a.tasks.items;
  name_at = a.name_at;
}
