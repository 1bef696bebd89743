-- How long a job may wait for jobs of lower priorities, as the code finds it: by cases of statements, tasks and
-- handlers, with the tables of ceilings and a measure of core steps.
use Rattle.std.specs.Prelude.{ℕ, ◌+◌, ◌*◌, ◌==◌, max, nat_lt, nat_le, List, [], ◌∷◌, get_or, slice_get, find}
use Rattle.std.specs.Prelude.{Option, Some, None, if◌then◌else◌}
use Rattle.rt_ids.specs.Lists.{or_zero}
use Rattle.rt_app.specs.declared.app.Mono.{Mono}
use Rattle.rt_app.specs.declared.ceilings.ReadyCeiling.{ReadyCeiling}
use Rattle.rt_app.specs.declared.costs.TheConstants.{FREE_COST, READY_COST, TIMER_SECTION_COST, MESSAGE_COST}
use Rattle.rt_app.specs.declared.costs.TheConstants.{HANDLE_SECTION_COST, HANDLE_MESSAGE_COST}
use Rattle.rt_app.specs.Tree.{Spawn, Soon, After, Cancel, Move, Value, Calc, Now, Call}
use Rattle.rt_app.specs.Tree.{Statement, Bind, Assign, Branch, Repeat, Locked, Emit, Pend, Spawns, Block, Empty, Then}
use Rattle.rt_app.specs.Tree.{Body, Task, App}
use Rattle.rt_app.specs.Bodies.{task_priority}
use Rattle.rt_app.specs.Level.{is_software, is_armed}
use Rattle.rt_app.specs.Ceiling.{Ceilings}
use Rattle.rt_app.specs.Cost.{Measure, lock_cost, block_cost}
use Rattle.rt_app.specs.BodyCost.{dispatcher_section_cost}

-- an optional number in an optional entry, and 0 for none
abbrev pub or_zero_twice : Option (Option ℕ) → ℕ
or_zero_twice None = 0
or_zero_twice (Some p) = or_zero p

-- the ceiling of a ready queue, and 0 where there is no such queue
abbrev pub ceiling_or_zero : Option ReadyCeiling → ℕ
ceiling_or_zero None = 0
ceiling_or_zero (Some r) = r.ceiling

-- the ceiling of a resource, and 0 where there is none
abbrev pub shared_ceiling : Ceilings → ℕ → ℕ
shared_ceiling c r = get_or c.shared r 0

-- the ceiling of the free places of a task, and 0 where there is none
abbrev pub free_at : Ceilings → ℕ → ℕ
free_at c n = or_zero_twice (slice_get c.free n)

-- the ceiling of the ready queue of a level, and 0 where there is none
abbrev pub ready_at : Ceilings → ℕ → ℕ
ready_at c p = ceiling_or_zero (find (λ r. r.level == p) c.ready)

-- the cost of a section, where its ceiling is at least the priority
abbrev pub if_reaches : ℕ → ℕ → ℕ → ℕ
if_reaches p ceiling cost = if nat_le p ceiling then cost else 0

-- a section of the timer queue, in a `spawn_after` and in the timer handler
abbrev pub timer_section : Measure → ℕ
timer_section m = TIMER_SECTION_COST + MESSAGE_COST * m.messages

-- a section of the timer queue, in a `cancel` and a `reschedule_after`
abbrev pub handle_section : Measure → ℕ
handle_section m = HANDLE_SECTION_COST + HANDLE_MESSAGE_COST * m.messages

module _ (app : App) (c : Ceilings) (p : ℕ) where
  -- the sections of a software task's dispatcher
  abbrev pub dispatcher_wait : ℕ → Task → ℕ
  dispatcher_wait n t =
      max (if_reaches p (ready_at c t.priority) (dispatcher_section_cost app t.priority))
      (if_reaches p (free_at c n) FREE_COST)

  -- the ready queue of a task that the timer handler moves messages to
  abbrev pub move_wait : ℕ → Task → ℕ
  move_wait n t =
      if is_software t then (if is_armed app n then if_reaches p (ready_at c t.priority) READY_COST else 0) else 0

  -- the greatest cost of a section in which the timer handler moves messages of the tasks from this number on
  abbrev pub moves_wait : ℕ → List Task → ℕ
  moves_wait n [] = 0
  moves_wait n (t ∷ ts) = max (move_wait n t) (moves_wait (n + 1) ts)

module _ (app : App) (m : Measure) (c : Ceilings) (p : ℕ) where
  -- the greatest cost of a section that counts, in a spawn, a cancel or a reschedule
  abbrev pub spawn_wait : Spawn → ℕ
  spawn_wait (Soon task args at) =
      max (if_reaches p (free_at c task) FREE_COST) (if_reaches p (ready_at c (task_priority app task)) READY_COST)
  spawn_wait (After word delay task args at) =
      max (if_reaches p (free_at c task) FREE_COST) (if_reaches p (or_zero c.timer) (timer_section m))
  spawn_wait (Cancel word task handle at) =
      max (if_reaches p (or_zero c.timer) (handle_section m)) (if_reaches p (free_at c task) FREE_COST)
  spawn_wait (Move word delay task handle at) = if_reaches p (or_zero c.timer) (handle_section m)

  -- the greatest cost of a section that counts, in the value of a `let`
  abbrev pub value_wait : Value → ℕ
  value_wait (Calc e) = 0
  value_wait (Now at) = 0
  value_wait (Call s) = spawn_wait s

  -- the greatest cost of a section that counts
  abbrev mutual
    pub statement_wait : Statement → ℕ
    statement_wait (Bind x v) = value_wait v
    statement_wait (Assign x e at) = 0
    statement_wait (Branch e first second) = max (block_wait first) (block_wait second)
    statement_wait (Repeat x first last turn) = block_wait turn
    statement_wait (Locked r inner at) =
        if nat_le p (shared_ceiling c r) then lock_cost (block_cost m inner) else block_wait inner
    statement_wait (Emit e) = 0
    statement_wait (Pend i) = 0
    statement_wait (Spawns s) = spawn_wait s

    -- the greatest cost of a section that counts, in a block
    pub block_wait : Block → ℕ
    block_wait Empty = 0
    block_wait (Then s rest) = max (statement_wait s) (block_wait rest)

  -- the greatest cost of a section that counts, in `idle`, where it is declared and of lower priority
  abbrev pub idle_wait : Option Body → ℕ
  idle_wait None = 0
  idle_wait (Some b) = if nat_lt 0 p then block_wait b.block else 0

  -- the greatest cost of a section that counts, in a task and its dispatcher, where the task is of lower priority
  abbrev pub task_wait : ℕ → Task → ℕ
  task_wait n t =
      let own = if is_software t then dispatcher_wait app c p n t else 0 in
      if nat_lt t.priority p then max (block_wait t.body.block) own else 0

  -- the greatest cost of a section that counts, in the tasks from this number on
  abbrev pub tasks_wait : ℕ → List Task → ℕ
  tasks_wait n [] = 0
  tasks_wait n (t ∷ ts) = max (task_wait n t) (tasks_wait (n + 1) ts)

  -- the greatest cost of a section that counts, in the timer handler, where there is one of lower priority
  abbrev pub timer_wait : Option Mono → ℕ
  timer_wait None = 0
  timer_wait (Some mono) =
      let queue = if_reaches p (or_zero c.timer) (timer_section m) in
      if nat_lt mono.priority p then max queue (moves_wait app c p 0 app.tasks) else 0

  -- the waiting bound of a priority
  abbrev pub wait_within : ℕ
  wait_within = max (idle_wait app.idle) (max (tasks_wait 0 app.tasks) (timer_wait app.mono))
