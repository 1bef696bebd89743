-- The system ceiling, and the interrupt that is to be taken (Baker, Stack-Based Scheduling of Realtime Processes, 1991;
-- ties go by the number, as in the ARMv7-M Architecture Reference Manual, section B1.5.4). The code of the core
-- compares priority values with masks.
use Rattle.std.specs.Prelude.{◌≡◌, ℕ, ◌==◌, ◌<◌, ◌≤◌, ◌⊎◌, max, Bool, false, ◌&&◌, ◌||◌, nat_lt, List, map}
use Rattle.std.specs.Prelude.{slice_index_or, Option}
use Rattle.rt_ids.specs.Lists.{greatest}
use Rattle.rt_ids.specs.Choice.{best, IsBest}
use Rattle.rt_ids.specs.declared.ids.Section.{Section}
use Rattle.rt_app.specs.Tree.{App}
use Rattle.rt_app.specs.Ceiling.{ceiling}
use Rattle.rt_laws.specs.Services.{priority_of}
use Rattle.rt_laws.specs.State.{Job, State}

-- the greatest ceiling of these sections, and 0 where there is none
abbrev pub greatest_ceiling : App → List Section → ℕ
greatest_ceiling app xs = greatest (map (ceiling app) xs)

-- What the priority of a job must be above for it to start: Baker's system ceiling (1991), which is the greatest
-- ceiling of the open sections of all jobs, or the greatest priority of a started job, whichever is greater. Baker
-- compares the two apart.
abbrev pub system_ceiling : App → List Job → ℕ
system_ceiling app jobs = greatest (map (λ job. max job.priority (greatest_ceiling app job.sections)) jobs)

-- Baker's preemption test (1991): the interrupt is pending, and its priority is above the system ceiling; one that is
-- not enabled has the priority 0
abbrev pub may_start : App → State → ℕ → Bool
may_start app s irq = slice_index_or s.pending irq false && nat_lt (system_ceiling app s.jobs) (priority_of app irq)

-- an interrupt is of a greater priority than another, or of an equal one with the lower number
abbrev pub goes_before : App → ℕ → ℕ → Bool
goes_before app irq other =
    nat_lt (priority_of app other) (priority_of app irq)
    || ((priority_of app irq == priority_of app other) && nat_lt irq other)

-- the interrupt that the preemption test selects, where there is one
abbrev pub candidate : App → State → Option ℕ
candidate app s = best (may_start app s) (goes_before app) (map (λ d. d.number) app.irqs)

-- an interrupt is of a greater priority than another, or of an equal one and no greater number
abbrev pub IsNoLater : App → ℕ → ℕ → Type 0
IsNoLater app irq other =
    (priority_of app other < priority_of app irq) ⊎ ((priority_of app irq ≡ priority_of app other) × (irq ≤ other))

-- the candidate is, of the interrupts that may start, the one of greatest priority, and of equal ones the one with the
-- lowest number
abbrev pub CandidateIsHighest : Type 0
CandidateIsHighest = (app : App) (s : State)
    → IsBest (may_start app s) (IsNoLater app) (map (λ d. d.number) app.irqs) (candidate app s)
