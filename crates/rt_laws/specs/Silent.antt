-- How many silent steps may pass, and what they lead to, by the costs at once: nothing is to be taken, and the body and
-- each open section have so many steps left. The machine takes them one by one.
use Rattle.std.specs.Prelude.{◌≡◌, ℕ, suc, ◌-◌, ◌≤◌, false, List, [], ◌∷◌, map, None}
use Rattle.std.specs.List.{AllByRecursion}
use Rattle.rt_app.specs.Tree.{App}
use Rattle.rt_laws.specs.State.{Role, Waiting, Job, State}
use Rattle.rt_laws.specs.Preemption.{candidate}
use Rattle.rt_laws.specs.Run.{RunsOn}
use Rattle.rt_laws.specs.ByItems.{after_all, silent}

-- a cost has so many steps left; the thread that waits has no cost
abbrev pub HasSteps : Role → ℕ → ℕ → Type 0
HasSteps Waiting left k = Unit {0}
HasSteps role left k = k ≤ left

-- the running job and its open sections have so many steps left
abbrev pub MaySpend : ℕ → List Job → Type 0
MaySpend k [] = ⊥
MaySpend k (job ∷ others) = HasSteps job.role job.left k × AllByRecursion (λ n. k ≤ n) job.lefts

-- a job of which so many steps are spent
abbrev pub job_after_steps : ℕ → Job → Job
job_after_steps k job = record job { left = job.left - k; lefts = map (λ n. n - k) job.lefts }

-- so many steps of the running job are spent
abbrev pub jobs_after_steps : ℕ → List Job → List Job
jobs_after_steps k [] = []
jobs_after_steps k (job ∷ others) = job_after_steps k job ∷ others

-- one or more silent steps may pass exactly where they may be spent, and lead there
pub record SilentStepsByCost : Type 0 where
  pub may : (app : App) (s : State) (k : ℕ) → s.owing ≡ false → candidate app s ≡ None → MaySpend k s.jobs
      → RunsOn app s (silent k)
  pub needs : (app : App) (s : State) (k : ℕ) → RunsOn app s (silent (suc k))
      → (s.owing ≡ false) × (candidate app s ≡ None) × MaySpend (suc k) s.jobs
  pub leads : (app : App) (s : State) (k : ℕ) → after_all app s (silent k)
      ≡ record s { jobs = jobs_after_steps k s.jobs }
