-- A coupling of both machines at a moment of a run: what the core has in frames, masks and cells, and what Baker's
-- machine has in jobs and values. Each job has its frame beside it, so that both states can be read off.
use Rattle.std.specs.Prelude.{ℕ, Bool, List, [], ◌∷◌, ◌++◌, map, Option}
use Rattle.rt_actions.specs.Location.{Location}
use Rattle.rt_actions.specs.Content.{Values}
use Rattle.rt_actions.specs.Entry.{Entry}
use Rattle.rt_actions.specs.Doing.{Doing}
use Rattle.rt_ids.specs.declared.ids.Section.{Section}
use Rattle.rt_code.specs.Owning.{OpenSection, Configuration}
use Rattle.rt_code.specs.declared.image.BodyRow.{BodyRow}
use Rattle.rt_core.specs.declared.alarm.Alarm.{Alarm}
use Rattle.rt_laws.specs.State.{Role, Serving, Job}
pub use Rattle.rt_laws.specs.DeviceWords.{runner_of}
use Rattle.rt_sim.specs.Whereabouts.{Whereabouts}

-- a started job, and where its code is: in the running frame, or in the one that was interrupted
pub record Part : Type 0 where
  pub role : Role
  pub priority : ℕ
  pub rest : Doing Values
  -- the steps that the cost of its body has left, and that of each open section, innermost first
  pub left : ℕ
  pub lefts : List ℕ
  -- its open sections, innermost first, with what each keeps of the masks
  pub held : List OpenSection
  -- the places of messages in its hands
  pub places : List Entry
  pub address : ℕ
  pub slots : List ℕ
  -- where a called body runs, the frame of the handler that called it
  pub caller : Option (List ℕ)
  -- its code stands for so many steps, beside these rows of bodies
  pub steps : ℕ
  pub rows : List BodyRow
  -- the words of its own frame, on which a called body has another
  pub own : ℕ

-- the coupled states of both machines, between two events
pub record Coupling : Type 0 where
  pub running : Part
  -- what it interrupted, the last started first, the thread last
  pub below : List Part
  pub time : ℕ
  -- as the core has it; Baker's machine has its instant
  pub alarm : Option Alarm
  pub pending : List Bool
  pub basepri : ℕ
  pub primask : Bool
  pub cells : List ℕ
  -- the places of the messages in each queue
  pub queues : Location → List Entry
  pub values : Values

-- the interrupt that a job handles
abbrev pub handled_irq : Role → ℕ
handled_irq (Serving irq) = irq
handled_irq role = 0

-- the sections alone, innermost first
abbrev pub sections_of : List OpenSection → List Section
sections_of held = map (λ h. h.section) held

-- the job of Baker's machine that a started job is
abbrev pub job_of : Part → Job
job_of p = record {
  role = p.role;
  priority = p.priority;
  rest = p.rest;
  left = p.left;
  sections = sections_of p.held;
  lefts = p.lefts;
}

-- where a started job's code is, with this memory and these queues
abbrev pub configuration_of : List ℕ → (Location → List Entry) → Part → Configuration
configuration_of cells queues p = record {
  held = p.held;
  lefts = p.lefts ++ p.left ∷ [];
  places = p.places;
  slots = p.slots;
  caller = p.caller;
  address = p.address;
  cells = cells;
  queues = queues;
  rest = p.rest;
}

-- a running job on those that it interrupted
abbrev pub jobs_of : Part → List Part → List Job
jobs_of p ps = job_of p ∷ map job_of ps

-- where the places of messages are, in a coupling
abbrev pub whereabouts_of : Coupling → Whereabouts
whereabouts_of m = record {
  in_hands = m.running.places ∷ map (λ p. p.places) m.below;
  in_queues = m.queues;
}
