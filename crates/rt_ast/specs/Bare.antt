-- A tree with all of its offsets set to 0: what it says, and not where.
use Rattle.std.specs.Prelude.{map, option_map}
use Rattle.rt_ast.specs.declared.ident.Ident.{Ident}
use Rattle.rt_ast.specs.declared.ident.Number.{Number}
use Rattle.rt_ast.specs.declared.app.IrqTree.{IrqTree}
use Rattle.rt_ast.specs.declared.app.MonoTree.{MonoTree}
use Rattle.rt_ast.specs.declared.app.SharedTree.{SharedTree}
use Rattle.rt_ast.specs.declared.app.LocalTree.{LocalTree}
use Rattle.rt_ast.specs.declared.app.ListedTree.{ListedTree}
use Rattle.rt_ast.specs.Tree.{Expression, Num, Read, Oper, Spawn, Soon, After, Cancel, Move, Value, Calc, Now, Call}
use Rattle.rt_ast.specs.Tree.{Statement, Bind}
use Rattle.rt_ast.specs.Tree.{Assign, Branch, Repeat, Locked, Emit, Pend, Spawns, Block, Empty, Then, Body, Task, App}

-- a name without its offset
abbrev pub bare_name : Ident → Ident
bare_name x = record { name = x.name; at = 0 }

-- a number without its offset
abbrev pub bare_number : Number → Number
bare_number n = record { value = n.value; at = 0 }

-- an expression without the offsets of its names
abbrev pub bare_expression : Expression → Expression
bare_expression (Num n) = Num n
bare_expression (Read x) = Read (bare_name x)
bare_expression (Oper o left right) = Oper o (bare_expression left) (bare_expression right)

-- a spawn, a cancel or a reschedule without offsets
abbrev pub bare_spawn : Spawn → Spawn
bare_spawn (Soon task args) = Soon (bare_name task) (map bare_expression args)
bare_spawn (After at delay task args) = After 0 (bare_expression delay) (bare_name task) (map bare_expression args)
bare_spawn (Cancel at task handle) = Cancel 0 (bare_name task) (bare_expression handle)
bare_spawn (Move at delay task handle) = Move 0 (bare_expression delay) (bare_name task) (bare_expression handle)

-- the value of a `let` without offsets
abbrev pub bare_value : Value → Value
bare_value (Calc e) = Calc (bare_expression e)
bare_value (Now at) = Now 0
bare_value (Call s) = Call (bare_spawn s)

abbrev mutual
  -- a statement without offsets, those of its inner blocks included
  pub bare_statement : Statement → Statement
  bare_statement (Bind x v) = Bind (bare_name x) (bare_value v)
  bare_statement (Assign x e) = Assign (bare_name x) (bare_expression e)
  bare_statement (Branch e first second) = Branch (bare_expression e) (bare_block first) (bare_block second)
  bare_statement (Repeat x first last turn) = Repeat (bare_name x) first last (bare_block turn)
  bare_statement (Locked r inner) = Locked (bare_name r) (bare_block inner)
  bare_statement (Emit e) = Emit (bare_expression e)
  bare_statement (Pend irq) = Pend (bare_name irq)
  bare_statement (Spawns s) = Spawns (bare_spawn s)

  -- a block without offsets
  pub bare_block : Block → Block
  bare_block Empty = Empty
  bare_block (Then s rest) = Then (bare_statement s) (bare_block rest)

-- a declared interrupt without offsets
abbrev pub bare_irq : IrqTree → IrqTree
bare_irq irq = record { name = bare_name irq.name; number = bare_number irq.number }

-- a monotonic without offsets
abbrev pub bare_mono : MonoTree → MonoTree
bare_mono mono = record { binds = bare_name mono.binds; priority = bare_number mono.priority }

-- a shared resource without its offset
abbrev pub bare_resource : SharedTree → SharedTree
bare_resource r = record { name = bare_name r.name; first = r.first; lock_free = r.lock_free }

-- a local resource without its offset
abbrev pub bare_local : LocalTree → LocalTree
bare_local r = record { name = bare_name r.name; first = r.first }

-- a listed resource without offsets
abbrev pub bare_listed : ListedTree → ListedTree
bare_listed r = record { name = bare_name r.name; by_ref = r.by_ref; at = 0 }

-- a body without offsets
abbrev pub bare_body : Body → Body
bare_body b = record {
  shared = map bare_listed b.shared;
  local = map bare_name b.local;
  block = bare_block b.block;
  at = 0;
}

-- a task without offsets
abbrev pub bare_task : Task → Task
bare_task t = record {
  name = bare_name t.name;
  binds = option_map bare_name t.binds;
  priority = option_map bare_number t.priority;
  capacity = t.capacity;
  args = map bare_name t.args;
  body = bare_body t.body;
}

-- an application without offsets
abbrev pub bare : App → App
bare a = record {
  name = bare_name a.name;
  bits = a.bits;
  fpu = a.fpu;
  dispatchers = map bare_name a.dispatchers;
  irqs = map bare_irq a.irqs;
  mono = option_map bare_mono a.mono;
  shared = map bare_resource a.shared;
  locals = map bare_local a.locals;
  init = option_map bare_body a.init;
  idle = option_map bare_body a.idle;
  tasks = map bare_task a.tasks;
}
