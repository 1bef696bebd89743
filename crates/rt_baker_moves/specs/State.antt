-- What an auditor keeps of a state of Baker's machine (Stack-Based Scheduling of Realtime Processes, 1991), and the
-- states that it may be. Contents are lists by number here, and what jobs have left to do lists of things to do.
use Rattle.std.specs.Prelude.{◌≡◌, ℕ, ◌-◌, ◌^◌, ◌<◌, Bool, List, [], ◌∷◌, Option}
use Rattle.rt_app.specs.Tree.{App}
use Rattle.rt_laws.specs.State as laws
use Rattle.rt_baker_work.specs.Store.{Store, contents, MayTakeOne}
use Rattle.rt_baker_moves.specs.Job.{AuditorJob, JobIs}
use Rattle.rt_baker_moves.specs.Waiting.{waiting_irqs}

-- what an auditor keeps of a state
pub record AuditorState : Type 0 where
  -- the last started first
  pub jobs : List AuditorJob
  -- by interrupt number
  pub pending : List Bool
  -- the pending interrupts that something serves, by their numbers, in the order in which they would be taken
  pub waiting : List ℕ
  pub store : Store
  pub time : ℕ
  pub alarm : Option ℕ
  pub owing : Bool

-- No count is so great that it could not rise.
pub record IsEarly (s : AuditorState) : Type 0 where
  pub time : s.time < 2 ^ 32 - 1
  pub store : MayTakeOne s.store

-- a state with these jobs
abbrev pub with_jobs : AuditorState → List laws.Job → laws.State
with_jobs s jobs = record {
  jobs = jobs;
  pending = s.pending;
  values = contents s.store;
  time = s.time;
  alarm =
      s.alarm;
  owing = s.owing;
}

-- these jobs are kept, one by one
abbrev pub JobsAre : App → List AuditorJob → List laws.Job → Type 0
JobsAre app [] [] = Unit {0}
JobsAre app [] (k ∷ ks) = ⊥
JobsAre app (j ∷ js) [] = ⊥
JobsAre app (j ∷ js) (k ∷ ks) = JobIs app j k × JobsAre app js ks

-- a state is the one that is kept: job by job, with all else equal, and with the interrupts that wait in order
pub record StateIs (app : App) (s : AuditorState) (t : laws.State) : Type 0 where
  pub jobs : JobsAre app s.jobs t.jobs
  pub is : t ≡ with_jobs s t.jobs
  pub waiting : s.waiting ≡ waiting_irqs app s.pending
