-- The application of a tree, with its names resolved. The language is this project's own.
use Rattle.std.specs.Prelude.{ℕ, ◌+◌, min, List, [], ◌∷◌, map, length, is_some, Option, Some, None, option_map}
use Rattle.rt_ast.specs.declared.ident.Ident.{Ident}
use Rattle.rt_ast.specs.declared.ident.Number.{Number}
use Rattle.rt_ast.specs.declared.app.IrqTree.{IrqTree}
use Rattle.rt_ast.specs.declared.app.MonoTree.{MonoTree}
use Rattle.rt_ast.specs.declared.app.SharedTree.{SharedTree}
use Rattle.rt_ast.specs.declared.app.LocalTree.{LocalTree}
use Rattle.rt_ast.specs.declared.app.ListedTree.{ListedTree}
use Rattle.rt_ast.specs.Tree.{Body, Task, App}
use Rattle.rt_app.specs.declared.body.Listed.{Listed}
use Rattle.rt_app.specs.declared.body.Owned.{Owned}
use Rattle.rt_app.specs.declared.app.IrqDecl.{IrqDecl}
use Rattle.rt_app.specs.declared.app.Dispatcher.{Dispatcher}
use Rattle.rt_app.specs.declared.app.Mono.{Mono}
use Rattle.rt_app.specs.declared.app.Shared.{Shared}
use Rattle.rt_app.specs.declared.app.Local.{Local}
use Rattle.rt_app.specs.Tree as tree
use Rattle.rt_resolve.specs.Scope.{Names, irq_named, shared_resource_named, local_named, or_unknown, inside}
use Rattle.rt_resolve.specs.Scope.{with_variable}
use Rattle.rt_resolve.specs.Resolving.{block}

-- a declared interrupt, with its offsets
abbrev pub irq : IrqTree → IrqDecl
irq d = record { name = d.name.name; number = d.number.value; at = d.name.at; number_at = d.number.at }

-- a dispatcher with the number of its interrupt in the order of declaration
abbrev pub dispatcher : App → Ident → Dispatcher
dispatcher app x = record { irq = or_unknown (irq_named app x.name); at = x.at }

-- a priority above 255 stands as 255, which no rule takes
abbrev pub stored_priority : ℕ → ℕ
stored_priority n = min n 255

-- the monotonic with the number of its interrupt in the order of declaration
abbrev pub mono : App → MonoTree → Mono
mono app m = record {
  irq = or_unknown (irq_named app m.binds.name);
  priority = stored_priority m.priority.value;
  at = m.binds.at;
  priority_at = m.priority.at;
}

-- a shared resource: its name, its first value, and whether it is `lock_free`
abbrev pub resolved_shared : SharedTree → Shared
resolved_shared r = record { name = r.name.name; first = r.first; lock_free = r.lock_free }

-- a local resource: its name and its first value
abbrev pub local : LocalTree → Local
local r = record { name = r.name.name; first = r.first }

-- a listing of a shared resource, with the number of the resource
abbrev pub resolved_listing : App → ListedTree → Listed
resolved_listing app l = record {
  resource = or_unknown (shared_resource_named app l.name.name);
  by_ref = l.by_ref;
  at =
      l.at;
}

-- a listing of a local resource, with the number of the resource
abbrev pub resolved_local : App → Ident → Owned
resolved_local app x = record { local = or_unknown (local_named app x.name); at = x.at }

-- arguments, before which so many variables stand
abbrev pub with_arguments : Names → ℕ → List Ident → Names
with_arguments names n [] = names
with_arguments names n (x ∷ xs) = with_arguments (with_variable names x n) (n + 1) xs

-- no variable is in scope before the arguments of a body
abbrev pub body_names : App → Body → Names
body_names app b = record { app = app; local = b.local; scope = record { variables = []; here = 0 } }

-- the block of a body that has these arguments, with numbers in place of names
abbrev pub body_block : App → List Ident → Body → tree.Block
body_block app args b = block (inside (with_arguments (body_names app b) 0 args)) (length args) b.block

-- a body that has these arguments, with numbers in place of names
abbrev pub body : App → List Ident → Body → tree.Body
body app args b = record {
  shared = map (resolved_listing app) b.shared;
  local = map (resolved_local app) b.local;
  block = body_block app args b;
  at = b.at;
}

-- the priority of a task, which is 1 where none is given, as in RTIC 1
abbrev pub priority_or_one : Option Number → ℕ
priority_or_one None = 1
priority_or_one (Some n) = stored_priority n.value

-- the offset of a number, and 0 where there is none
abbrev pub number_offset : Option Number → ℕ
number_offset None = 0
number_offset (Some n) = n.at

-- the capacity of a task, which is 1 where none is given, as in RTIC 1
abbrev pub capacity_or_one : Option ℕ → ℕ
capacity_or_one None = 1
capacity_or_one (Some n) = n

-- the offset of a name, and 0 where there is none
abbrev pub ident_at : Option Ident → ℕ
ident_at None = 0
ident_at (Some x) = x.at

-- a task with numbers in place of names
abbrev pub task : App → Task → tree.Task
task app t = record {
  name = t.name.name;
  at = t.name.at;
  binds = option_map (λ x. or_unknown (irq_named app x.name)) t.binds;
  binds_at = ident_at t.binds;
  priority = priority_or_one t.priority;
  priority_at = number_offset t.priority;
  capacity = capacity_or_one t.capacity;
  has_capacity = is_some t.capacity;
  args = length t.args;
  body = body app t.args t.body;
}

-- the application that a tree declares, with numbers in place of names
abbrev pub resolved_app : App → tree.App
resolved_app app = record {
  bits = app.bits;
  fpu = app.fpu;
  irqs = map irq app.irqs;
  dispatchers = map (dispatcher app) app.dispatchers;
  mono = option_map (mono app) app.mono;
  shared = map resolved_shared app.shared;
  locals = map local app.locals;
  init = option_map (body app []) app.init;
  idle = option_map (body app []) app.idle;
  tasks = map (task app) app.tasks;
  name_at = app.name.at;
}
