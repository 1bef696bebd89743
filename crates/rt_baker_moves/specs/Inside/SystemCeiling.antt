-- The system ceiling of Baker's machine, and how many steps the running job has left (Stack-Based Scheduling of
-- Realtime Processes, 1991), from the jobs that an auditor keeps.
use Rattle.std.specs.Prelude.{ℕ, max, nat_le, Bool, true, false, ◌&&◌, List, [], ◌∷◌, map}
use Rattle.std.specs.List.{list_all}
use Rattle.rt_ids.specs.Lists.{greatest}
use Rattle.rt_app.specs.Tree.{App}
use Rattle.rt_laws.specs.Preemption.{greatest_ceiling}
use Rattle.rt_laws.specs.State as laws
use Rattle.rt_baker_moves.specs.Job.{AuditorJob}

module _ (app : App) where
  -- a job's part in the system ceiling: the greatest of its priority and of the ceilings of its open sections
  abbrev pub job_threshold : AuditorJob → ℕ
  job_threshold j = max j.priority (greatest_ceiling app j.sections)

  -- the system ceiling: the greatest of these jobs' parts in it
  abbrev pub kept_ceiling : List AuditorJob → ℕ
  kept_ceiling js = greatest (map job_threshold js)

-- whether a job of this role has so many steps left; the thread that waits has no cost
abbrev pub has_steps : laws.Role → ℕ → ℕ → Bool
has_steps laws.Waiting left k = true
has_steps role left k = nat_le k left

-- whether a job has so many steps left, in its body or handler and in each of its open sections
abbrev pub may_spend : ℕ → AuditorJob → Bool
may_spend k j = has_steps j.role j.left k && list_all (nat_le k) j.lefts

-- whether the first of these jobs, which runs, has so many steps left
abbrev pub first_may_spend : ℕ → List AuditorJob → Bool
first_may_spend k [] = false
first_may_spend k (j ∷ js) = may_spend k j
