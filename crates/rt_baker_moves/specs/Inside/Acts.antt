-- What an action of the running job changes in what an auditor keeps of the job and of the state, beside what the
-- machine of the definitions changes (`rt_laws`; Baker, Stack-Based Scheduling of Realtime Processes, 1991).
use Rattle.std.specs.Prelude.{◌≡◌, ℕ, ◌-◌, true, [], ◌∷◌, ◌++◌, map, drop, slice_set, slice_index_or, Option, None}
use Rattle.std.specs.Prelude.{if◌then◌else◌}
use Rattle.rt_actions.specs.Location.{Guarded}
use Rattle.rt_actions.specs.Content.{Values, delays, least_instant}
use Rattle.rt_actions.specs.Action.{Action, Enters, Leaves, Posts, SetsAlarm, effect}
use Rattle.rt_actions.specs.Doing.{Doing}
use Rattle.rt_ids.specs.declared.ids.Section.TheVariants as section
use Rattle.rt_app.specs.Tree.{App}
use Rattle.rt_laws.specs.Services.{timer_number}
use Rattle.rt_laws.specs.Giving.{is_due}
use Rattle.rt_baker_work.specs.declared.action.Action as code
use Rattle.rt_baker_work.specs.declared.todo.Todo.TheVariants as todo
use Rattle.rt_baker_work.specs.Store.{Store, contents}
use Rattle.rt_baker_work.specs.Work.{Work, IsSettled}
use Rattle.rt_baker_moves.specs.Job.{AuditorJob, rest_of, with_rest}
use Rattle.rt_baker_moves.specs.State.{AuditorState}
use Rattle.rt_baker_moves.specs.Inside.Waiting.{waiting_with}

-- what an action changes in the open sections and in the steps that are left
abbrev pub kept_after_action : Action → AuditorJob → AuditorJob
kept_after_action (Enters x cost) j = record j {
  left = j.left - 1;
  sections = x ∷ j.sections;
  lefts = (cost - 1) ∷ map (λ n.
      n - 1) j.lefts;
}
kept_after_action (Leaves x) j = record j {
  left = j.left - 1;
  sections = drop 1 j.sections;
  lefts = drop 1 (map (λ n. n - 1)
      j.lefts);
}
kept_after_action a j = record j { left = j.left - 1; lefts = map (λ n. n - 1) j.lefts }

-- A job did an action of its work, and went on as far as its next.
pub record IsPerformed (app : App) (a : Action) (old : AuditorJob) (was : Store) (new : AuditorJob)
    (is : Store) : Type 0 where
  pub tracks : (rest : Doing Values) → with_rest app new rest ≡ with_rest app (kept_after_action a old) rest
  pub rest : rest_of app new (contents is) ≡ rest_of app old (effect a (contents was))
  pub settled : IsSettled new.work.todos

-- a state with this running job on its jobs, and with these contents
abbrev pub held_with_job : AuditorState → AuditorJob → Store → AuditorState
held_with_job s new is = record {
  jobs = new ∷ s.jobs;
  pending = s.pending;
  waiting = s.waiting;
  store = is;
  time = s.time;
  alarm = s.alarm;
  owing = s.owing;
}

-- an interrupt that is not pending yet is so from now on; numbers beyond all that there are change nothing
abbrev pub held_after_pend : App → ℕ → AuditorState → AuditorState
held_after_pend app irq s =
    if slice_index_or s.pending irq true then s
    else record s { pending = slice_set s.pending irq true; waiting = waiting_with app irq s.waiting }

-- the instant that is armed next, where something is armed
abbrev pub held_instant : AuditorState → Option ℕ
held_instant s = least_instant (delays (contents s.store (Guarded section.Timer)))

-- the alarm is set to an instant; where that is due it comes at once
abbrev pub held_alarm : App → Option ℕ → AuditorState → AuditorState
held_alarm app instant s =
    if is_due s.time instant then held_after_pend app (timer_number app) (record s { alarm = None })
    else record s { alarm = instant }

-- what an action changes beside the running job and the contents, where this instant was armed next
abbrev pub beyond : App → Action → Option ℕ → AuditorState → AuditorState
beyond app (Posts irq) instant s = held_after_pend app irq s
beyond app SetsAlarm instant s = held_alarm app instant s
beyond app a instant s = s

-- The running job, taken out of the state, did an action of its work, and runs on.
pub record Resumes (app : App) (a : Action) (job : AuditorJob) (old new : AuditorState) : Type 0 where
  pub after : AuditorJob
  pub store : Store
  pub performs : IsPerformed app a job old.store after store
  pub is : new ≡ held_with_job old after store

-- a job with other things to do
abbrev pub with_work : AuditorJob → Work → AuditorJob
with_work j w = record {
  role = j.role;
  priority = j.priority;
  work = w;
  left = j.left;
  sections = j.sections;
  lefts = j.lefts;
}

-- the state as it was before the running job was taken out of it and did this action of its work
abbrev pub before : code.Action → AuditorJob → AuditorState → AuditorState
before a job s = held_with_job s (with_work job (record {
  todos = job.work.todos ++ todo.Act a ∷ [];
  vars = job.work.vars;
})) s.store
