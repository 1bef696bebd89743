-- Short forms for the worked examples: a rest that plays by itself, values after reset, and parts of applications.
-- Offsets are 0.
use Rattle.std.proofs.Common.{ℕ, true, false, List, [], ◌∷◌, map, Some, None, slice_get}
use Rattle.rt_ids.specs.Lists.{or_zero}
use Rattle.rt_actions.specs.Location.{Guarded, Own}
use Rattle.rt_actions.specs.Content.{Number, Messages, Delays, Message, Values, nothing_armed}
use Rattle.rt_actions.specs.Action.{Action, Clocks, effect}
use Rattle.rt_actions.specs.Doing.{Doing, over, does}
use Rattle.rt_ids.specs.declared.ids.Section.TheVariants as section
use Rattle.rt_app.specs.declared.expr.Atom.TheVariants as atom
use Rattle.rt_app.specs.declared.app.IrqDecl.{IrqDecl}
use Rattle.rt_app.specs.declared.app.Dispatcher.{Dispatcher}
use Rattle.rt_app.specs.declared.app.Shared.{Shared}
use Rattle.rt_app.specs.Tree.{Expression, Read, Statement, Assign, Block, Empty, Then, Body, Task}

-- what the clock answers at a time; any other action answers 0
abbrev pub answer : ℕ → Action → ℕ
answer time Clocks = time
answer time action = 0

-- the actions of a rest while nobody else runs, at a time
abbrev pub alone : ℕ → Doing Values → List Action
alone time over = []
alone time (does action values next) = action ∷ alone time (next (answer time action) (effect action values))

-- and the values behind its last action
abbrev pub left : ℕ → Doing Values → Values → Values
left time over values = values
left time (does action before next) values = left time (next (answer time action) (effect action before))
    (effect action before)

-- values after reset, where the shared resources have these: all places are free, and no message is ready or armed
abbrev pub at_reset : List ℕ → Values
at_reset firsts (Guarded (section.Res r)) = Number (or_zero (slice_get firsts r))
at_reset firsts (Guarded (section.Free n)) = Number 0
at_reset firsts (Guarded (section.Ready p)) = Messages []
at_reset firsts (Guarded section.Timer) = Delays nothing_armed
at_reset firsts (Own n) = Number 0

-- a message with one argument
abbrev pub message : ℕ → ℕ → Message
message n x = record { task = n; args = x ∷ [] }

abbrev pub irq : List ℕ → ℕ → IrqDecl
irq name number = record { name = name; number = number; at = 0; number_at = 0 }

abbrev pub dispatcher : ℕ → Dispatcher
dispatcher i = record { irq = i; at = 0 }

abbrev pub shared : List ℕ → ℕ → Shared
shared name first = record { name = name; first = first; lock_free = false }

abbrev pub body_listing : List ℕ → Block → Body
body_listing resources block = record {
  shared = map (λ r. record { resource = r; by_ref = false; at = 0 }) resources;
  local = [];
  block = block;
  at = 0;
}

-- a hardware task that binds an interrupt at a priority, and a software task of a level with a capacity and so many
-- arguments
abbrev pub hardware : List ℕ → ℕ → ℕ → Body → Task
hardware name i priority body = record {
  name = name;
  at = 0;
  binds = Some i;
  binds_at = 0;
  priority = priority;
  priority_at = 0;
  capacity = 1;
  has_capacity = false;
  args = 0;
  body = body;
}

abbrev pub software : List ℕ → ℕ → ℕ → ℕ → Body → Task
software name priority capacity args body = record {
  name = name;
  at = 0;
  binds = None;
  binds_at = 0;
  priority = priority;
  priority_at = 0;
  capacity = capacity;
  has_capacity = true;
  args = args;
  body = body;
}

-- a statement that ends a block; a variable, the first of them, a shared resource; an assignment to that
abbrev pub last : Statement → Block
last s = Then s Empty

abbrev pub variable : ℕ → Expression
variable x = Read (atom.Var x) 0

abbrev pub argument : Expression
argument = variable 0

abbrev pub resource : ℕ → Expression
resource r = Read (atom.Shared r) 0

abbrev pub set_resource : ℕ → Expression → Statement
set_resource r e = Assign (atom.Shared r) e 0
