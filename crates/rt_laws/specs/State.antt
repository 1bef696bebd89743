-- The state of Baker's machine (Stack-Based Scheduling of Realtime Processes, 1991) on an application: a stack of
-- jobs, each with the sections that it has open, and the contents of resources and queues. A job is one handling of
-- an interrupt; the thread is a job too, the last of the stack. There are no frames, masks, rings, code addresses or
-- instructions here.
use Rattle.std.specs.Prelude.{ℕ, ◌^◌, Bool, false, List, [], ◌∷◌, replicate, slice_get, Option, None, option_map}
use Rattle.rt_ids.specs.Lists.{or_zero}
use Rattle.rt_actions.specs.Location.{Guarded, Own}
use Rattle.rt_actions.specs.Content.{Values, Number, Messages, Delays, nothing_armed}
use Rattle.rt_actions.specs.Doing.{Doing, over, does}
use Rattle.rt_ids.specs.declared.ids.Section.{Section}
use Rattle.rt_ids.specs.declared.ids.Section.TheVariants as section
use Rattle.rt_ids.specs.declared.limits.TheConstants.{IRQ_NUMBERS}
use Rattle.rt_app.specs.Tree.{App}
use Rattle.rt_app.specs.Doings.{init_doing}
use Rattle.rt_app.specs.BodyCost.{cost_measure, cost_of}

-- who a job is: the handling of an interrupt, or the thread, which runs `init`, then `idle`, or waits where `idle` is
-- absent
pub data Role : Type 0 where
  Init : Role
  Idle : Role
  Waiting : Role
  Serving : (irq : ℕ) → Role

-- a job of the stack (Baker 1991): its priority, what it has left to do, its remaining budget, and its open sections
pub record Job : Type 0 where
  pub role : Role
  pub priority : ℕ
  -- what it has left to do, from its next action on
  pub rest : Doing Values
  -- the remaining budget: core steps that the cost of its body or handler, as `check` prints it of a body, has left
  pub left : ℕ
  -- the open sections, innermost first, and the remaining budget of each: core steps that its cost has left
  pub sections : List Section
  pub lefts : List ℕ

-- a state of Baker's machine: the stack of jobs, the pending interrupts, the contents of resources and queues, and time
pub record State : Type 0 where
  -- the started jobs, the last started first
  pub jobs : List Job
  -- by interrupt number
  pub pending : List Bool
  pub values : Values
  -- in ticks
  pub time : ℕ
  -- the instant for which the alarm is set
  pub alarm : Option ℕ
  -- a tick has made the alarm due, and it has not come yet
  pub owing : Bool

-- a job as it begins
abbrev pub new_job : Role → ℕ → ℕ → Doing Values → Job
new_job role priority cost rest =
    record { role = role; priority = priority; rest = rest; left = cost; sections = []; lefts = [] }

-- the values that code has made on its way to its next action, from these
abbrev pub reached_values : Doing Values → Values → Values
reached_values over vs = vs
reached_values (does action made next) vs = made

-- what resources and queues hold at reset: the declared values; no place is out, no message ready or armed
abbrev pub first_values : App → Values
first_values app (Guarded (section.Res r)) = Number (or_zero (option_map (λ s. s.first) (slice_get app.shared r)))
first_values app (Guarded (section.Free n)) = Number 0
first_values app (Guarded (section.Ready p)) = Messages []
first_values app (Guarded section.Timer) = Delays nothing_armed
first_values app (Own n) = Number (or_zero (option_map (λ l. l.first) (slice_get app.locals n)))

-- the state at reset: the thread begins `init`, which runs with all interrupts masked and so has the greatest priority
abbrev pub first : App → State
first app = record {
  jobs = new_job Init (2 ^ app.bits) (cost_of (cost_measure app) app.init) (init_doing app (first_values app)) ∷ [];
  pending = replicate IRQ_NUMBERS false;
  values = reached_values (init_doing app (first_values app)) (first_values app);
  time = 0;
  alarm = None;
  owing = false;
}
