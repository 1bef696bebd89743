-- What the running job's next action changes: the other column of the table of Baker's machine, a line an action. What
-- is not named stays. After an action the job's rest runs on to the next action at once; the code runs instructions,
-- and can be interrupted between any two.
use Rattle.std.specs.Prelude.{ℕ, ◌-◌, true, if◌then◌else◌, List, ◌∷◌, map, drop, slice_set, Option, Some, None}
use Rattle.rt_actions.specs.Content.{Values}
use Rattle.rt_actions.specs.Action.{Action, Enters, Leaves, Posts, Clocks, SetsAlarm, Ends, Returns, effect}
use Rattle.rt_actions.specs.Doing.{Doing, over, does}
use Rattle.rt_ids.specs.declared.ids.BodyId.TheVariants as body
use Rattle.rt_app.specs.Tree.{App, Body}
use Rattle.rt_app.specs.Doings.{idle_doing}
use Rattle.rt_app.specs.BodyCost.{cost_measure, cost_of}
use Rattle.rt_laws.specs.Services.{timer_number}
use Rattle.rt_laws.specs.State.{Job, State, Idle, Waiting, new_job, reached_values}
use Rattle.rt_laws.specs.Giving.{next_instant, is_due}

-- an interrupt is pending from now on
abbrev pub state_after_pend : ℕ → State → State
state_after_pend irq s = record s { pending = slice_set s.pending irq true }

-- a job with one core step spent, of its own cost and of the cost of each open section
abbrev pub job_after_step : Job → Job
job_after_step job = record job { left = job.left - 1; lefts = map (λ n. n - 1) job.lefts }

-- the alarm is set to this instant, or to none; where it is due it comes at once
abbrev pub alarm_set : App → Option ℕ → State → State
alarm_set app instant s =
    if is_due s.time instant then state_after_pend (timer_number app) (record s { alarm = None })
    else record s { alarm = instant }

-- the thread as it begins `idle`, or as it waits where `idle` is not declared
abbrev pub idle_job : App → Values → Option Body → Job
idle_job app vs None = new_job Waiting 0 0 over
idle_job app vs (Some b) = new_job Idle 0 (cost_of (cost_measure app) app.idle) (idle_doing app vs)

-- what an action answers in a state: the time for a reading of the clock, and 0 for any other
abbrev pub answer : State → Action → ℕ
answer s Clocks = s.time
answer s action = 0

module _ (app : App) (s : State) (job : Job) (others : List Job) where
  -- the running job is this one from now on, and the values are those that its rest has made
  abbrev pub runs_on : Job → Values → State
  runs_on j vs = record s { jobs = j ∷ others; values = reached_values j.rest vs }

  -- the state after an action, with these values, where the job has this left to do
  abbrev pub state_after_action : Action → Values → Doing Values → State
  state_after_action (Enters x cost) vs rest =
      runs_on (record (job_after_step job) {
        rest = rest;
        sections = x ∷ job.sections;
        lefts =
            (cost - 1) ∷ (job_after_step job).lefts;
      }) vs
  state_after_action (Leaves x) vs rest =
      runs_on (record (job_after_step job) {
        rest = rest;
        sections = drop 1 job.sections;
        lefts =
            drop 1 (job_after_step job).lefts;
      }) vs
  state_after_action (Posts irq) vs rest = state_after_pend irq
      (runs_on (record (job_after_step job) { rest = rest }) vs)
  state_after_action SetsAlarm vs rest = alarm_set app (next_instant s)
      (runs_on (record (job_after_step job) { rest = rest }) vs)
  state_after_action (Ends body.Init) vs rest = runs_on (idle_job app vs app.idle) vs
  state_after_action (Ends body.Idle) vs rest = runs_on (idle_job app vs app.idle) vs
  state_after_action Returns vs rest = record s { jobs = others }
  state_after_action action vs rest = runs_on (record (job_after_step job) { rest = rest }) vs

  -- the state after the running job's next action, and the same state where nothing is left to do
  abbrev pub state_after_doing : Doing Values → State
  state_after_doing over = s
  state_after_doing (does action made next) =
      state_after_action action (effect action s.values) (next (answer s action) (effect action s.values))
