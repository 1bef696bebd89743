-- The most that holds a handler off, as the code finds it: the greatest of each body, one after another, with the table
-- of ceilings, a table of works and a measure of core steps.
use Rattle.std.specs.Prelude.{◌≡◌, ℕ, ◌-◌, ◌==◌, not, ◌&&◌, nat_lt, nat_le, get_or, map, count_by, List, Option, Some}
use Rattle.std.specs.Prelude.{None, if◌then◌else◌}
use Rattle.rt_app.specs.Tree.{Statement, Bind, Assign, Branch, Repeat, Locked, Emit, Pend, Spawns, Block, Empty, Then}
use Rattle.rt_app.specs.Tree.{Spawn, Soon, After, Cancel, Move, Value, Calc, Now, Call, Body, Task, App}
use Rattle.rt_app.specs.Bodies.{task_priority}
use Rattle.rt_app.specs.declared.costs.TheConstants.{FREE_COST, READY_COST}
use Rattle.rt_app.specs.Ceiling.{Ceilings, ceilings}
use Rattle.rt_app.specs.Cost.{Measure, lock_cost, block_cost}
use Rattle.rt_app.specs.BodyCost.{cost_measure, dispatcher_section_cost}
use Rattle.rt_frames.specs.Inside.Waits.{free_at, ready_at}
use Rattle.rt_respond.specs.Number.{plus, greater_of}
use Rattle.rt_respond.specs.Handlers.{handlers, handled_block, stands_before}
use Rattle.rt_respond.specs.Work.{steps_weight, block_sends, work}
use Rattle.rt_respond.specs.Blocking as definition
use Rattle.rt_respond.specs.Inside.Works.{table_asks}
use Rattle.rt_respond.specs.declared.blocking.Held.{Held}
use Rattle.rt_respond.specs.declared.handler.Quantity.{Quantity}
use Rattle.rt_respond.specs.declared.handler.Handler.{Handler}
use Rattle.rt_respond.specs.declared.handler.Release.{Release}
use Rattle.rt_respond.specs.declared.handler.Release.TheVariants as released

module _ (app : App) (what : Quantity) (asks : Release → Option ℕ) (c : Ceilings) (m : Measure) (p : ℕ) where
  -- a lock round this block
  abbrev pub section_most : Block → Option ℕ
  section_most inner = plus (Some (steps_weight what (lock_cost (block_cost m inner) - 1))) (block_sends asks inner)

  -- a section of a queue of this ceiling and cost, with what is released in it
  abbrev pub queue_most : ℕ → ℕ → Option ℕ → Option ℕ
  queue_most top cost released = if nat_le p top then plus (Some (steps_weight what (cost - 1))) released else Some 0

  -- the section of a task's free places
  abbrev pub free_most : ℕ → Option ℕ
  free_most task = queue_most (free_at c task) FREE_COST (Some 0)

  -- the section in which a message of a task is made ready
  abbrev pub ready_most : ℕ → Option ℕ
  ready_most task = queue_most (ready_at c (task_priority app task)) READY_COST (asks (released.Message task))

  -- the most of a spawn
  abbrev pub spawn_most : Spawn → Option ℕ
  spawn_most (Soon task args at) = greater_of (free_most task) (ready_most task)
  spawn_most (After word delay task args at) = Some 0
  spawn_most (Cancel word task handle at) = Some 0
  spawn_most (Move word delay task handle at) = Some 0

  -- of the value of a `let`
  abbrev pub value_most : Value → Option ℕ
  value_most (Calc e) = Some 0
  value_most (Now at) = Some 0
  value_most (Call s) = spawn_most s

  -- the most of a statement
  abbrev mutual
    pub statement_most : Statement → Option ℕ
    statement_most (Bind x v) = value_most v
    statement_most (Assign x e at) = Some 0
    statement_most (Branch e first second) = greater_of (block_most first) (block_most second)
    statement_most (Repeat x first last turn) = block_most turn
    statement_most (Locked r inner at) =
        if nat_le p (get_or c.shared r 0) then section_most inner else block_most inner
    statement_most (Emit e) = Some 0
    statement_most (Pend irq) = asks (released.Request irq)
    statement_most (Spawns s) = spawn_most s

    -- and of a block
    pub block_most : Block → Option ℕ
    block_most Empty = Some 0
    block_most (Then s rest) = greater_of (statement_most s) (block_most rest)

  -- of `idle`
  abbrev pub idle_most : Option Body → Option ℕ
  idle_most None = Some 0
  idle_most (Some b) = block_most b.block

  -- of a task, where it is of lower priority
  abbrev pub task_most : Task → Option ℕ
  task_most t = if nat_lt t.priority p then block_most t.body.block else Some 0

  -- of the dispatcher of a task, where it is of lower priority
  abbrev pub dispatcher_most : Handler → Option ℕ
  dispatcher_most h =
      if h.is_dispatcher && nat_lt h.priority p
      then greater_of (queue_most (ready_at c h.priority) (dispatcher_section_cost app h.priority) (Some 0))
      (free_most h.task) else Some 0

-- of a handler of the same priority that stands behind
abbrev pub equal_most : App → Quantity → (Release → Option ℕ) → Handler → Handler → Option ℕ
equal_most app what asks i h =
    if (h.priority == i.priority) && stands_before i h
    then plus (Some (steps_weight what h.steps)) (block_sends asks (handled_block app h)) else Some 0

-- the most that a body of this priority holds off, with the places in transit at the other priorities
abbrev pub with_transit : List ℕ → ℕ → Option ℕ → Option ℕ
with_transit transit priority most = plus (Some (count_by (λ other. not (other == priority)) transit)) most

-- by the tables of a handler that is held off
module _ (app : App) (held : Held) where
  abbrev pub asked_for : Release → Option ℕ
  asked_for = table_asks held.all.handlers.now held.all.works.now

  abbrev pub held_section : Block → Option ℕ
  held_section = section_most app held.counted asked_for held.ceilings.now held.measure.now held.this.now.priority

  abbrev pub held_queue : ℕ → ℕ → Option ℕ → Option ℕ
  held_queue = queue_most app held.counted asked_for held.ceilings.now held.measure.now held.this.now.priority

  abbrev pub held_free : ℕ → Option ℕ
  held_free = free_most app held.counted asked_for held.ceilings.now held.measure.now held.this.now.priority

  abbrev pub held_spawn : Spawn → Option ℕ
  held_spawn = spawn_most app held.counted asked_for held.ceilings.now held.measure.now held.this.now.priority

  abbrev pub held_value : Value → Option ℕ
  held_value = value_most app held.counted asked_for held.ceilings.now held.measure.now held.this.now.priority

  abbrev pub held_statement : Statement → Option ℕ
  held_statement = statement_most app held.counted asked_for held.ceilings.now held.measure.now held.this.now.priority

  abbrev pub held_block : Block → Option ℕ
  held_block = block_most app held.counted asked_for held.ceilings.now held.measure.now held.this.now.priority

  abbrev pub held_idle : Option Body → Option ℕ
  held_idle = idle_most app held.counted asked_for held.ceilings.now held.measure.now held.this.now.priority

  abbrev pub held_task : Task → Option ℕ
  held_task = task_most app held.counted asked_for held.ceilings.now held.measure.now held.this.now.priority

  abbrev pub held_dispatcher : Handler → Option ℕ
  held_dispatcher = dispatcher_most app held.counted asked_for held.ceilings.now held.measure.now held.this.now.priority

  -- a task, with the places in transit at the other priorities
  abbrev pub whole_task : Task → Option ℕ
  whole_task t = with_transit held.transit.now t.priority (held_task t)

  abbrev pub held_handler : Handler → Option ℕ
  held_handler h = greater_of (equal_most app held.counted asked_for held.this.now h) (held_dispatcher h)

  abbrev pub whole_handler : Handler → Option ℕ
  whole_handler h = with_transit held.transit.now h.priority (held_handler h)

-- the tables are those of the application, at this handler
pub record IsHeld (app : App) (held : Held) : Type 0 where
  pub handlers_are : held.all.handlers.now ≡ handlers app
  pub works_are : held.all.works.now ≡ map (work app held.counted held.this.now) (handlers app)
  pub ceilings_are : held.ceilings.now ≡ ceilings app
  pub measure_is : held.measure.now ≡ cost_measure app
  pub transit_is : held.transit.now ≡ definition.transit app held.counted held.this.now
