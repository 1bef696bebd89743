-- Silent steps are told from the costs at once.
use Rattle.std.proofs.Common.{◌≡◌, ℕ, zero, suc, ◌-◌, ◌≤◌, ◌<◌, false, List, [], ◌∷◌, map, None, refl, sym, ap, ◌∙◌}
use Rattle.std.proofs.Common.{arith}
use Rattle.std.specs.List.{AllByRecursion}
use Rattle.rt_app.specs.Tree.{App}
use Rattle.rt_laws.specs.State.{Role, Init, Idle, Waiting, Serving, Job, State}
use Rattle.rt_laws.specs.Preemption.{candidate}
use Rattle.rt_laws.specs.Acting.{job_after_step}
use Rattle.rt_laws.specs.Allowed.{HasStep}
use Rattle.rt_laws.specs.Run.{RunsOn}
use Rattle.rt_laws.specs.ByItems.{after_all, silent}
use Rattle.rt_laws.specs.Silent.{HasSteps, MaySpend, job_after_steps, jobs_after_steps, SilentStepsByCost}

none_off : (ns : List ℕ) → map (λ n. n - 0) ns ≡ ns
none_off [] = refl
none_off (n ∷ ns) = let here : n - 0 ≡ n = omega arith in
    ap (λ m. m ∷ map (λ n. n - 0) ns) here ∙ ap (λ ms. n ∷ ms) (none_off ns)

more_off : (k : ℕ) (ns : List ℕ) → map (λ n. n - k) (map (λ n. n - 1) ns) ≡ map (λ n. n - suc k) ns
more_off k [] = refl
more_off k (n ∷ ns) =
    let here : n - 1 - k ≡ n - suc k = omega arith in
    ap (λ m. m ∷ map (λ n. n - k) (map (λ n. n - 1) ns)) here ∙ ap (λ ms. (n - suc k) ∷ ms) (more_off k ns)

job_same : (job : Job) (left other : ℕ) (lefts others : List ℕ) → left ≡ other → lefts ≡ others
    → record job { left = left; lefts = lefts } ≡ record job { left = other; lefts = others }
job_same job left other lefts others same also =
    ap (λ n. record job { left = n; lefts = lefts }) same ∙ ap (λ ns. record job { left = other; lefts = ns }) also

spent_none : (job : Job) → job ≡ job_after_steps 0 job
spent_none job = job_same job job.left (job.left - 0) job.lefts (map (λ n. n - 0) job.lefts) (omega arith)
    (sym (none_off job.lefts))

spent_more : (k : ℕ) (job : Job) → job_after_steps k (job_after_step job) ≡ job_after_steps (suc k) job
spent_more k job =
    job_same job (job.left - 1 - k) (job.left - suc k) (map (λ n. n - k) (map (λ n. n - 1) job.lefts))
    (map (λ n. n - suc k) job.lefts)
    (omega arith) (more_off k job.lefts)

one_step : (role : Role) (left k : ℕ) → HasSteps role left (suc k) → HasStep role left
one_step Init left k has = omega arith
one_step Idle left k has = omega arith
one_step Waiting left k has = tt
one_step (Serving irq) left k has = omega arith

steps_less : (role : Role) (left k : ℕ) → HasSteps role left (suc k) → HasSteps role (left - 1) k
steps_less Init left k has = omega arith
steps_less Idle left k has = omega arith
steps_less Waiting left k has = tt
steps_less (Serving irq) left k has = omega arith

steps_more : (role : Role) (left k : ℕ) → HasStep role left → HasSteps role (left - 1) k → HasSteps role left (suc k)
steps_more Init left k step has = omega arith
steps_more Idle left k step has = omega arith
steps_more Waiting left k step has = tt
steps_more (Serving irq) left k step has = omega arith

first_step : (role : Role) (left : ℕ) → HasStep role left → HasSteps role left 1
first_step Init left step = omega arith
first_step Idle left step = omega arith
first_step Waiting left step = tt
first_step (Serving irq) left step = omega arith

lefts_one : (k : ℕ) (ns : List ℕ) → AllByRecursion (λ n. suc k ≤ n) ns → AllByRecursion (λ n. 0 < n) ns
lefts_one k [] all = tt
lefts_one k (n ∷ ns) all = let here = all.0 in (omega arith, lefts_one k ns all.1)

lefts_less : (k : ℕ) (ns : List ℕ) → AllByRecursion (λ n. suc k ≤ n) ns
    → AllByRecursion (λ n. k ≤ n) (map (λ n. n - 1) ns)
lefts_less k [] all = tt
lefts_less k (n ∷ ns) all = let here = all.0 in (omega arith, lefts_less k ns all.1)

lefts_more : (k : ℕ) (ns : List ℕ) → AllByRecursion (λ n. 0 < n) ns → AllByRecursion (λ n. k ≤ n) (map (λ n. n - 1) ns)
    → AllByRecursion (λ n. suc k ≤ n) ns
lefts_more k [] some all = tt
lefts_more k (n ∷ ns) some all = let one = some.0 in let here = all.0 in (omega arith, lefts_more k ns some.1 all.1)

pub lefts_first : (ns : List ℕ) → AllByRecursion (λ n. 0 < n) ns → AllByRecursion (λ n. 1 ≤ n) ns
lefts_first [] some = tt
lefts_first (n ∷ ns) some = let one = some.0 in (omega arith, lefts_first ns some.1)

module _ (app : App) (s : State) where
  abbrev with_jobs : List Job → State
  with_jobs js = record s { jobs = js }

  leads_at : (k : ℕ) (js : List Job) → after_all app (with_jobs js) (silent k) ≡ with_jobs (jobs_after_steps k js)
  leads_at zero [] = refl
  leads_at zero (job ∷ others) = ap (λ j. with_jobs (j ∷ others)) (spent_none job)
  leads_at (suc k) [] = leads_at k []
  leads_at (suc k) (job ∷ others) = leads_at k (job_after_step job ∷ others)
      ∙ ap (λ j. with_jobs (j ∷ others)) (spent_more k job)

  may_at : (k : ℕ) (js : List Job) → s.owing ≡ false → candidate app (with_jobs js) ≡ None → MaySpend k js
      → RunsOn app (with_jobs js) (silent k)
  may_at zero js owing none may = tt
  may_at (suc k) [] owing none may = absurd may
  may_at (suc k) (job ∷ others) owing none may = (
    record {
      not_owing = owing;
      quiet = none;
      step =
          (one_step job.role job.left k may.0, lefts_one k job.lefts may.1);
    },
    may_at k (job_after_step job ∷ others) owing none (
      steps_less job.role job.left k may.0,
      lefts_less k job.lefts may.1,
    ),
  )

  spend_at : (k : ℕ) (js : List Job) → RunsOn app (with_jobs js) (silent (suc k)) → MaySpend (suc k) js
  spend_at k [] runs = absurd runs.0.step
  spend_at zero (job ∷ others) runs =
      let step = runs.0.step in (first_step job.role job.left step.0, lefts_first job.lefts step.1)
  spend_at (suc k) (job ∷ others) runs =
      let step = runs.0.step in
      let behind = spend_at k (job_after_step job ∷ others) runs.1 in
      (steps_more job.role job.left (suc k) step.0 behind.0, lefts_more (suc k) job.lefts step.1 behind.1)

pub silent_steps_by_cost : SilentStepsByCost
silent_steps_by_cost = record {
  may = λ app s k owing none may. may_at app s k s.jobs owing none may;
  needs = λ app s k runs. (runs.0.not_owing, runs.0.quiet, spend_at app s k s.jobs runs);
  leads = λ app s k. leads_at app s k s.jobs;
}
