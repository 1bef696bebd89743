-- How long a job of a priority may wait for jobs of lower ones, in core steps: for one section of one of them, since no
-- other can begin while it is pending (Baker, Stack-Based Scheduling of Realtime Processes, 1991, on blocking). A
-- section counts where its ceiling is at least the priority, and its body is of lower priority. A section inside such a
-- section does not count, since its steps are among those of the outer one. (In a `for` of no turns it may have a
-- greater cost than the outer one, but is never entered.) `init` counts for nothing. The code walks each body once a
-- priority, and does not look into a section that counts.
use Rattle.std.specs.Prelude.{ℕ, ◌+◌, Bool, max, ◌&&◌, nat_lt, nat_le, List, [], ◌∷◌, ◌++◌, map, filter}
use Rattle.std.specs.Prelude.{Option, Some, None, if◌then◌else◌}
use Rattle.rt_ids.specs.Lists.{greatest}
use Rattle.rt_ids.specs.declared.ids.Section.{Section}
use Rattle.rt_ids.specs.declared.ids.Section.TheVariants as section
use Rattle.rt_app.specs.declared.app.Mono.{Mono}
use Rattle.rt_app.specs.declared.costs.TheConstants.{FREE_COST, READY_COST}
use Rattle.rt_app.specs.Tree.{Spawn, Soon, After, Cancel, Move, Value, Calc, Now, Call, Body, Task, App}
use Rattle.rt_app.specs.Tree.{Statement, Bind, Assign, Branch, Repeat, Locked, Emit, Pend, Spawns, Block, Empty, Then}
use Rattle.rt_app.specs.Bodies.{task_priority}
use Rattle.rt_app.specs.Level.{is_software, is_armed}
use Rattle.rt_app.specs.Ceiling.{ceiling}
use Rattle.rt_app.specs.Cost.{lock_cost, block_cost}
use Rattle.rt_app.specs.BodyCost.{cost_measure, dispatcher_section_cost, timer_section_cost, handle_section_cost}

-- a section of some body's code
pub record CriticalSection : Type 0 where
  -- the priority of the body
  pub priority : ℕ
  -- the greatest ceiling of the sections of the body that it lies in, and 0 where it lies in none
  pub outer : ℕ
  pub ceiling : ℕ
  -- its core steps, from the entering to the leaving
  pub cost : ℕ

-- in code that runs at a priority
module _ (app : App) (priority : ℕ) where
  -- and that lies in sections of ceilings up to this
  module _ (outer : ℕ) where
    -- a critical section there, of this cost
    abbrev pub critical : Section → ℕ → CriticalSection
    critical s cost = record { priority = priority; outer = outer; ceiling = ceiling app s; cost = cost }

    -- the section of a task's free places
    abbrev pub free_section : ℕ → CriticalSection
    free_section task = critical (section.Free task) FREE_COST

    -- the section of the ready messages of a level, of this cost
    abbrev pub ready_section : ℕ → ℕ → CriticalSection
    ready_section p cost = critical (section.Ready p) cost

    -- the section of the timer queue, of this cost
    abbrev pub timer_section : ℕ → CriticalSection
    timer_section cost = critical section.Timer cost

    -- the section of a lock round a block
    abbrev pub lock_section : ℕ → Block → CriticalSection
    lock_section r inner = critical (section.Res r) (lock_cost (block_cost (cost_measure app) inner))

    -- a spawn takes a place, and makes its message ready or arms it; a cancel takes an armed message, and gives its
    -- place back
    abbrev pub spawn_sections : Spawn → List CriticalSection
    spawn_sections (Soon task args at) = free_section task ∷ ready_section (task_priority app task) READY_COST ∷ []
    spawn_sections (After word delay task args at) = free_section task ∷ timer_section (timer_section_cost app) ∷ []
    spawn_sections (Cancel word task handle at) = timer_section (handle_section_cost app) ∷ free_section task ∷ []
    spawn_sections (Move word delay task handle at) = timer_section (handle_section_cost app) ∷ []

    -- the sections of the value of a `let`
    abbrev pub value_sections : Value → List CriticalSection
    value_sections (Calc e) = []
    value_sections (Now at) = []
    value_sections (Call s) = spawn_sections s

  -- the sections of a statement, with those inside them
  abbrev mutual
    pub statement_sections : ℕ → Statement → List CriticalSection
    statement_sections outer (Bind x v) = value_sections outer v
    statement_sections outer (Assign x e at) = []
    statement_sections outer (Branch e first second) = block_sections outer first ++ block_sections outer second
    statement_sections outer (Repeat x first last turn) = block_sections outer turn
    statement_sections outer (Locked r inner at) =
        lock_section outer r inner ∷ block_sections (max outer (ceiling app (section.Res r))) inner
    statement_sections outer (Emit e) = []
    statement_sections outer (Pend i) = []
    statement_sections outer (Spawns s) = spawn_sections outer s

    -- the sections of a block, with those inside them
    pub block_sections : ℕ → Block → List CriticalSection
    block_sections outer Empty = []
    block_sections outer (Then s rest) = statement_sections outer s ++ block_sections outer rest

module _ (app : App) where
  -- the sections of `idle`, where it is declared
  abbrev pub idle_sections : Option Body → List CriticalSection
  idle_sections None = []
  idle_sections (Some b) = block_sections app 0 0 b.block

  -- the sections of a dispatcher that belong to one task of its level
  abbrev pub dispatcher_sections : ℕ → Task → List CriticalSection
  dispatcher_sections n t =
      let ready = ready_section app t.priority 0 t.priority (dispatcher_section_cost app t.priority) in
      if is_software t then ready ∷ free_section app t.priority 0 n ∷ [] else []

  -- the sections of the tasks from this number on, with those of dispatchers that belong to them
  abbrev pub tasks_sections : ℕ → List Task → List CriticalSection
  tasks_sections n [] = []
  tasks_sections n (t ∷ ts) =
      (block_sections app t.priority 0 t.body.block ++ dispatcher_sections n t) ++ tasks_sections (n + 1) ts

  -- the ready queues that the timer handler moves messages to, for the tasks from this number on
  abbrev pub moved_sections : ℕ → ℕ → List Task → List CriticalSection
  moved_sections priority n [] = []
  moved_sections priority n (t ∷ ts) =
      (if is_software t && is_armed app n then ready_section app priority 0 t.priority READY_COST ∷ [] else [])
      ++ moved_sections priority (n + 1) ts

  -- the sections of the timer handler, where there is a monotonic
  abbrev pub handler_sections : Option Mono → List CriticalSection
  handler_sections None = []
  handler_sections (Some mono) =
      timer_section app mono.priority 0 (timer_section_cost app) ∷ moved_sections mono.priority 0 app.tasks

-- every section of `idle`, the tasks, the dispatchers and the timer handler
abbrev pub sections : App → List CriticalSection
sections app = idle_sections app app.idle ++ (tasks_sections app 0 app.tasks ++ handler_sections app app.mono)

-- a section may hold off a job of this priority, as the outermost of its body that does
abbrev pub holds_off : ℕ → CriticalSection → Bool
holds_off p s = nat_lt s.priority p && nat_lt s.outer p && nat_le p s.ceiling

-- the waiting bound, which is worst-case blocking (Baker 1991): the greatest cost of a section that may hold off a job
-- of this priority
abbrev pub waiting_bound : App → ℕ → ℕ
waiting_bound app p = greatest (map (λ s. s.cost) (filter (holds_off p) (sections app)))
