-- What is promised of the code of a spawn, wherever it stands in a body: it takes a place of the task, stores the
-- arguments, makes the message ready and pends its dispatcher, or finds no place (the RTIC 1 book, software tasks,
-- `spawn`), within its cost, whatever others do to what is not the job's own; and what the job has is as before.
use Rattle.std.specs.Prelude.{◌≡◌, ℕ, ◌+◌, ◌-◌, ◌^◌, ◌<◌, ◌≤◌, ◌⊎◌, max, true, false, List, length, map, take, drop}
use Rattle.std.specs.Prelude.{slice_get, slice_index, Some}
use Rattle.std.specs.List.{AllByRecursion}
use Rattle.rt_ids.specs.Lists.{greatest}
use Rattle.rt_actions.specs.Location.{Location}
use Rattle.rt_actions.specs.Content.{Values}
use Rattle.rt_actions.specs.Entry.{Entry}
use Rattle.rt_actions.specs.Storage.{Runner, Starting, AtPriority}
use Rattle.rt_ids.specs.declared.ids.Section.TheVariants as section
use Rattle.rt_app.specs.declared.costs.TheConstants.{SPAWN_COST, SPAWN_WORDS}
use Rattle.rt_app.specs.Tree.{Expression, Soon, Task, App}
use Rattle.rt_app.specs.Level.{is_software}
use Rattle.rt_app.specs.Ceiling.{ceiling}
use Rattle.rt_app.specs.Sending.{Rest, spawn_actions}
use Rattle.rt_app.specs.Layout.{memory}
use Rattle.rt_app.specs.Holding.{storage}
use Rattle.rt_app.specs.Accepted.{IsAccepted}
use Rattle.rt_code.specs.Masking.{IsWithin}
use Rattle.rt_code.specs.Owning.{OpenSection, Configuration, is_open, saved_slots, Agree, LeavesMine}
use Rattle.rt_code.specs.Standing.{Stands}
use Rattle.rt_code.specs.declared.image.BodyRow.{BodyRow}
use Rattle.rt_gen_queue.specs.Line.{Line, HasCodeAt}
use Rattle.rt_gen_queue.specs.SpawnCode.{spawn_code}

module _ (app : App) (who : Runner) where
  -- The preemption threshold of what runs, with these sections open: `init` holds off all, another runner all up to the
  -- greatest of its priority and the ceilings of its open sections.
  abbrev pub HoldsOff : Runner → List OpenSection → ℕ → Type 0
  HoldsOff Starting held threshold = 2 ^ app.bits ≤ threshold
  HoldsOff (AtPriority p) held threshold = threshold ≡ max p (greatest (map (λ h. ceiling app h.section) held))

  -- A job may spawn a task from here: all its memory is there, sixteen slots of its frame keep no mask, it is in
  -- neither of the two sections, and each may be entered by what runs; and there are the steps of a spawn.
  pub record MaySpawn (task : ℕ) (t : Task) (threshold slot : ℕ) (s : Configuration) : Type 0 where
    pub cells : length s.cells ≡ length (memory app)
    pub frame : slot + SPAWN_WORDS ≤ length s.slots
    pub masks : AllByRecursion (λ d. d < slot) (saved_slots s.held)
    pub closed : (is_open s.held (section.Free task) ≡ false) × (is_open s.held (section.Ready t.priority) ≡ false)
    pub within : IsWithin (storage app) who who (section.Free task)
        × IsWithin (storage app) who who (section.Ready t.priority)
    pub off : HoldsOff who s.held threshold
    pub steps : AllByRecursion (λ n. SPAWN_COST ≤ n) s.lefts

  -- After the spawn: the answer is in the first slot; other slots, what the job may read, and its cells and queues are
  -- as they were.
  pub record HasSpawned (slot : ℕ) (s : Configuration) (vs : Values) (granted used : ℕ) (slots cells : List ℕ)
      (queues : Location → List Entry) (ws : Values) : Type 0 where
    pub answer : (granted ≤ 1) × (slice_index slots slot ≡ granted)
    pub frame : length slots ≡ length s.slots
    pub kept : (d : ℕ) → (d < slot) ⊎ (slot + SPAWN_WORDS ≤ d) → slice_index slots d ≡ slice_index s.slots d
    pub steps : used ≤ SPAWN_COST
    pub own : LeavesMine (storage app) who s cells queues
    pub agree : Agree (storage app) who s.held ws vs

  -- where a job is after these lines of a spawn, with this left to do
  abbrev pub after_lines : Configuration → List Line → ℕ → List ℕ → List ℕ → (Location → List Entry) → Rest → Values
      → Configuration
  after_lines s lines used slots cells queues rest ws = record s {
    lefts = map (λ n. n - used) s.lefts;
    slots = slots;
    address = s.address + length lines;
    cells = cells;
    queues = queues;
    rest = rest ws;
  }

-- A call site in the code of a job: the code, with the rows of bodies beside it and where the thread goes on; who runs,
-- where, and at which preemption threshold; the task that is named, and its number; the first slot of the call; the
-- values before it; and what is to be done after it, by its answer.
pub record CallSite : Type 0 where
  pub app : App
  pub code : List Line
  pub bodies : List BodyRow
  pub thread : ℕ
  pub who : Runner
  pub configuration : Configuration
  pub threshold : ℕ
  pub task : ℕ
  pub t : Task
  pub slot : ℕ
  pub vs : Values
  pub rest : ℕ → Rest

-- a call site names a software task of an accepted application
pub record NamesTask (c : CallSite) : Type 0 where
  pub accepted : IsAccepted c.app
  pub is_there : slice_get c.app.tasks c.task ≡ Some c.t
  pub software : is_software c.t ≡ true

-- A spawn at a call site: its code is where the job is, which may spawn the task; the values of the arguments are in
-- the first slots; and the actions of the spawn are what is to be done.
pub record SpawnAt (c : CallSite) : Type 0 where
  pub value : Expression → ℕ
  pub args : List Expression
  pub offset : ℕ
  pub has : HasCodeAt c.code c.configuration.address
      (spawn_code c.app c.task c.threshold c.slot c.configuration.address)
  pub may : MaySpawn c.app c.who c.task c.t c.threshold c.slot c.configuration
  pub arguments : take c.t.args (drop c.slot c.configuration.slots) ≡ map value args
  pub is : c.configuration.rest ≡ spawn_actions c.app value (Soon c.task args offset) c.rest c.vs

-- The code of a spawn stands for its actions and for any rest, where the code after it stands for that rest.
abbrev pub SpawnsStand : Type 0
SpawnsStand =
    (c : CallSite) → NamesTask c → SpawnAt c → (n k : ℕ) → SPAWN_COST + n ≤ k
    → ((granted used m : ℕ) (slots cells : List ℕ) (queues : Location → List Entry) (ws : Values) → n ≤ m
    → HasSpawned c.app c.who c.slot c.configuration c.vs granted used slots cells queues ws
    → Stands (storage c.app) c.code c.bodies c.thread c.who m
    (after_lines c.app c.who c.configuration
    (spawn_code c.app c.task c.threshold c.slot c.configuration.address) used slots
    cells queues
    (c.rest granted) ws))
    → Stands (storage c.app) c.code c.bodies c.thread c.who k c.configuration
