-- What holds a handler off that is of lower priority, or of the same and later in the order. While something at the
-- handler is left, lower jobs take steps in one section of one of them (Baker, Stack-Based Scheduling of Realtime
-- Processes, 1991, on blocking), and so does one job of the same priority that has been taken before (as in analysis
-- without preemption: George, Rivierre and Spuri, Preemptive and Non-Preemptive Real-Time Uniprocessor Scheduling,
-- 1996). What any of these releases at the handler comes with it, and comes once. A `pend` outside of sections that
-- count is a release and no step. Of a section's cost the step that enters it lies before the waiting. A `spawn` takes
-- a place in one section and makes its message ready in another; the dispatcher of a level takes its message in one and
-- gives the place back in another. Where messages are counted, a job of each priority below may have a place in
-- transit: taken for a message that is not ready yet.
use Rattle.std.specs.Prelude.{ℕ, ◌-◌, ◌==◌, Bool, false, not, ◌&&◌, ◌||◌, nat_lt, nat_le, List, [], ◌∷◌, ◌++◌, map}
use Rattle.std.specs.Prelude.{count_by, length, Option, Some, None, if◌then◌else◌}
use Rattle.std.specs.List.{list_any}
use Rattle.rt_ids.specs.Lists.{those_below}
use Rattle.rt_ids.specs.declared.ids.Section.TheVariants as section
use Rattle.rt_app.specs.Tree.{Statement, Bind, Assign, Branch, Repeat, Locked, Emit, Pend, Spawns, Block, Empty, Then}
use Rattle.rt_app.specs.Tree.{Spawn, Soon, After, Cancel, Move, Value, Calc, Now, Call, Body, Task, App}
use Rattle.rt_app.specs.Ceiling.{ceiling}
use Rattle.rt_app.specs.Bodies.{task_priority}
use Rattle.rt_app.specs.declared.costs.TheConstants.{FREE_COST, READY_COST, PRIORITIES}
use Rattle.rt_app.specs.Cost.{lock_cost, block_cost}
use Rattle.rt_app.specs.BodyCost.{cost_measure, dispatcher_section_cost}
use Rattle.rt_respond.specs.Number.{plus, greatest_of}
use Rattle.rt_respond.specs.Handlers.{handlers, handled_block, stands_before}
use Rattle.rt_respond.specs.Pends.{block_spawns}
use Rattle.rt_respond.specs.Work.{steps_weight, release_work, sends}
use Rattle.rt_respond.specs.declared.handler.Quantity.{Quantity}
use Rattle.rt_respond.specs.declared.handler.Quantity.TheVariants as counted
use Rattle.rt_respond.specs.declared.handler.Handler.{Handler}
use Rattle.rt_respond.specs.declared.handler.Release.TheVariants as released

-- `idle` spawns messages of a task
abbrev pub idle_spawns : ℕ → Option Body → Bool
idle_spawns task None = false
idle_spawns task (Some b) = block_spawns task b.block

-- a handler of this priority is behind another, and spawns messages of a task
abbrev pub spawns_behind : App → Handler → ℕ → ℕ → Handler → Bool
spawns_behind app i task priority h =
    (h.priority == priority) && (stands_before i h && block_spawns task (handled_block app h))

-- a job of this priority below a handler may take a place for a message of a task
abbrev pub spawns_below : App → Handler → ℕ → ℕ → Bool
spawns_below app i task priority =
    ((priority == 0) && idle_spawns task app.idle)
    || list_any (spawns_behind app i task priority) (handlers app)

-- the priorities at which a place may be in transit of the messages that are counted, rising
abbrev pub transit : App → Quantity → Handler → List ℕ
transit app counted.Steps i = []
transit app (counted.Messages task) i = those_below (spawns_below app i task) PRIORITIES

-- at a handler
module _ (app : App) (what : Quantity) (i : Handler) where
  -- a lock round this block: its steps behind the first, and what is released in it
  abbrev pub section_holds : Block → Option ℕ
  section_holds inner =
      plus (Some (steps_weight what (lock_cost (block_cost (cost_measure app) inner) - 1))) (sends app what i inner)

  -- a section of a queue of this ceiling and cost, where it counts, with what is released in it
  abbrev pub queue_holds : ℕ → ℕ → Option ℕ → List (Option ℕ)
  queue_holds top cost released =
      if nat_le i.priority top then plus (Some (steps_weight what (cost - 1))) released ∷ [] else []

  -- the section of a task's free places
  abbrev pub free_holds : ℕ → List (Option ℕ)
  free_holds task = queue_holds (ceiling app (section.Free task)) FREE_COST (Some 0)

  -- the section in which a message of a task is made ready
  abbrev pub ready_holds : ℕ → List (Option ℕ)
  ready_holds task =
      queue_holds (ceiling app (section.Ready (task_priority app task))) READY_COST
      (release_work app what i (released.Message task))

  -- what the sections of a spawn hold off; those of messages that are armed are left for later
  abbrev pub spawn_holds : Spawn → List (Option ℕ)
  spawn_holds (Soon task args at) = free_holds task ++ ready_holds task
  spawn_holds (After word delay task args at) = []
  spawn_holds (Cancel word task handle at) = []
  spawn_holds (Move word delay task handle at) = []

  -- what those of the value of a `let` hold off
  abbrev pub value_holds : Value → List (Option ℕ)
  value_holds (Calc e) = []
  value_holds (Now at) = []
  value_holds (Call s) = spawn_holds s

  -- what the sections of a statement hold off, outermost of those that count, and its releases outside of them
  abbrev mutual
    pub statement_holds : Statement → List (Option ℕ)
    statement_holds (Bind x v) = value_holds v
    statement_holds (Assign x e at) = []
    statement_holds (Branch e first second) = block_holds first ++ block_holds second
    statement_holds (Repeat x first last turn) = block_holds turn
    statement_holds (Locked r inner at) =
        if nat_le i.priority (ceiling app (section.Res r)) then section_holds inner ∷ [] else block_holds inner
    statement_holds (Emit e) = []
    statement_holds (Pend irq) = release_work app what i (released.Request irq) ∷ []
    statement_holds (Spawns s) = spawn_holds s

    -- and of a block
    pub block_holds : Block → List (Option ℕ)
    block_holds Empty = []
    block_holds (Then s rest) = statement_holds s ++ block_holds rest

  -- of `idle`, which is below each handler
  abbrev pub idle_holds : Option Body → List (Option ℕ)
  idle_holds None = []
  idle_holds (Some b) = block_holds b.block

  -- of a task, where it is of lower priority
  abbrev pub task_holds : Task → List (Option ℕ)
  task_holds t = if nat_lt t.priority i.priority then block_holds t.body.block else []

  -- of a handler of the same priority that stands behind: its whole job, and what it releases
  abbrev pub equal_holds : Handler → List (Option ℕ)
  equal_holds h =
      if (h.priority == i.priority) && stands_before i h
      then plus (Some (steps_weight what h.steps)) (sends app what i (handled_block app h)) ∷ [] else []

  -- of the dispatcher of a task, where it is of lower priority
  abbrev pub dispatcher_holds : Handler → List (Option ℕ)
  dispatcher_holds h =
      if h.is_dispatcher && nat_lt h.priority i.priority
      then queue_holds (ceiling app (section.Ready h.priority)) (dispatcher_section_cost app h.priority) (Some 0)
      ++ free_holds h.task else []

  -- of a handler
  abbrev pub handler_holds : Handler → List (Option ℕ)
  handler_holds h = equal_holds h ++ dispatcher_holds h

  -- a place in transit at each other priority than this one
  abbrev pub others_in_transit : ℕ → ℕ
  others_in_transit priority = count_by (λ other. not (other == priority)) (transit app what i)

  -- the most of what a body of this priority holds off, with the places in transit at the other priorities
  abbrev pub body_hold : ℕ → List (Option ℕ) → Option ℕ
  body_hold priority holds = plus (Some (others_in_transit priority)) (greatest_of holds)

  -- of each body the most that it holds off; `init` is not among them, since no request counts before it ends
  abbrev pub holds : List (Option ℕ)
  holds =
      body_hold 0 (idle_holds app.idle)
      ∷ (map (λ t. body_hold t.priority (task_holds t)) app.tasks
      ++ map (λ h. body_hold h.priority (handler_holds h)) (handlers app))

  -- worst-case blocking, with what it releases, and at least the places in transit
  abbrev pub blocking : Option ℕ
  blocking = greatest_of (Some (length (transit app what i)) ∷ holds)
