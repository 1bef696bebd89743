-- What Baker's machine allows next, and what that changes (Stack-Based Scheduling of Realtime Processes, 1991). A job
-- starts only where its priority is above the system ceiling, and while a job may start none takes a step. A machine
-- does one thing after another, as `Label` has them.
use Rattle.std.specs.Prelude.{◌≡◌, ℕ, suc, ◌<◌, true, false, List, [], ◌∷◌, slice_set, Option, Some, None}
use Rattle.std.specs.List.{AllByRecursion}
use Rattle.rt_trace.specs.Label.{Label, Arrived, Ticked, Rang, Stepped}
use Rattle.rt_trace.specs.declared.item.What.TheVariants as what
use Rattle.rt_app.specs.Tree.{App}
use Rattle.rt_app.specs.Handlers.{Service}
use Rattle.rt_app.specs.Doings.{handler_doing}
use Rattle.rt_laws.specs.Services.{is_declared, service_at, timer_number, handler_cost}
use Rattle.rt_laws.specs.State.{Role, Waiting, Serving, Job, State, new_job, reached_values}
use Rattle.rt_laws.specs.Preemption.{candidate}
use Rattle.rt_laws.specs.Giving.{is_due, item_to_come}
use Rattle.rt_laws.specs.Acting.{state_after_pend, job_after_step, state_after_doing}

-- a cost has a step left; the thread that waits has no cost
abbrev pub HasStep : Role → ℕ → Type 0
HasStep Waiting left = Unit {0}
HasStep role left = 0 < left

-- the running job may take a step: its body has one left, and so has each open section
abbrev pub MayStep : List Job → Type 0
MayStep [] = ⊥
MayStep (job ∷ others) = HasStep job.role job.left × AllByRecursion (λ n. 0 < n) job.lefts

-- a job may take a step: no alarm is owed, no interrupt is to be taken, and the running job may
pub record Turn (app : App) (s : State) : Type 0 where
  pub not_owing : s.owing ≡ false
  pub quiet : candidate app s ≡ None
  pub step : MayStep s.jobs

-- this label may come next; a take may where the preemption test selects its interrupt (Baker 1991)
abbrev pub May : App → State → Label → Type 0
May app s (Arrived irq) = (s.owing ≡ false) × (is_declared app irq ≡ true)
May app s Ticked = s.owing ≡ false
May app s Rang = s.owing ≡ true
May app s (Stepped None) = Turn app s
May app s (Stepped (Some (what.Take irq depth))) = (s.owing ≡ false) × (candidate app s ≡ Some irq)
May app s (Stepped (Some w)) = Turn app s × (item_to_come s ≡ Some w)

-- the handler of an interrupt starts as a job
abbrev pub state_after_start : App → State → ℕ → Option Service → State
state_after_start app s irq None = s
state_after_start app s irq (Some v) =
    let rest = handler_doing app v.handler s.values in
    record s {
      jobs = new_job (Serving irq) v.priority (handler_cost app v.handler) rest ∷ s.jobs;
      values =
          reached_values rest s.values;
    }

-- the running job, which is the last started, takes a silent step
abbrev pub state_after_silence : State → List Job → State
state_after_silence s [] = s
state_after_silence s (job ∷ others) = record s { jobs = job_after_step job ∷ others }

-- the running job does its next action
abbrev pub state_after_item : App → State → List Job → State
state_after_item app s [] = s
state_after_item app s (job ∷ others) = state_after_doing app s job others job.rest

-- the state after a label
abbrev pub after : App → State → Label → State
after app s (Arrived irq) = state_after_pend irq s
after app s Ticked = record s { time = suc s.time; owing = is_due (suc s.time) s.alarm }
after app s Rang = state_after_pend (timer_number app) (record s { alarm = None; owing = false })
after app s (Stepped None) = state_after_silence s s.jobs
after app s (Stepped (Some (what.Take irq depth))) =
    state_after_start app (record s { pending = slice_set s.pending irq false }) irq (service_at app irq)
after app s (Stepped (Some w)) = state_after_item app s s.jobs
