-- Which bodies hold a `pend` of which interrupt, or a `spawn` of which task, whether or not it is ever done.
use Rattle.std.specs.Prelude.{ℕ, ◌==◌, Bool, false, ◌&&◌, ◌||◌, Option, Some, None}
use Rattle.std.specs.List.{list_any}
use Rattle.rt_app.specs.Tree.{Statement, Bind, Assign, Branch, Repeat, Locked, Emit, Pend, Spawns, Block, Empty, Then}
use Rattle.rt_app.specs.Tree.{Spawn, Body, App}
use Rattle.rt_app.specs.Spawned.{spawns, makes_ready, target}

-- a statement holds a `pend` of this interrupt
abbrev mutual
  pub statement_pends : ℕ → Statement → Bool
  statement_pends irq (Bind x v) = false
  statement_pends irq (Assign x e at) = false
  statement_pends irq (Branch e first second) = block_pends irq first || block_pends irq second
  statement_pends irq (Repeat x first last turn) = block_pends irq turn
  statement_pends irq (Locked r inner at) = block_pends irq inner
  statement_pends irq (Emit e) = false
  statement_pends irq (Pend i) = i == irq
  statement_pends irq (Spawns s) = false

  -- a block does
  pub block_pends : ℕ → Block → Bool
  block_pends irq Empty = false
  block_pends irq (Then s rest) = statement_pends irq s || block_pends irq rest

-- a spawn makes a message of this task ready at once
abbrev pub readies_task : ℕ → Spawn → Bool
readies_task task s = makes_ready s && (target s == task)

-- a block holds a `spawn` of this task
abbrev pub block_spawns : ℕ → Block → Bool
block_spawns task b = list_any (readies_task task) (spawns b)

-- `init` or `idle` holds a `pend` of this interrupt, where it is declared
abbrev pub body_pends : ℕ → Option Body → Bool
body_pends irq None = false
body_pends irq (Some b) = block_pends irq b.block

-- some body does
abbrev pub is_pended : App → ℕ → Bool
is_pended app irq =
    (body_pends irq app.init || body_pends irq app.idle) || list_any (λ t. block_pends irq t.body.block) app.tasks
