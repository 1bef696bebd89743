-- What an observer knows of the jobs by what a machine shows alone: the stack of jobs by takes and returns, who is
-- inside what by enters and leaves, and which interrupts are pending. Beside what is shown it uses the static
-- priorities of the application. Of the machine's state it uses nothing: neither what jobs have left to do nor their
-- costs. The names of sections are the application's.
use Rattle.std.specs.Prelude.{ℕ, suc, ◌^◌, Bool, true, false, List, [], ◌∷◌, drop, replicate, slice_set, Some, None}
use Rattle.rt_ids.specs.Choice.{IsIn}
use Rattle.rt_ids.specs.declared.ids.BodyId.TheVariants as body
use Rattle.rt_ids.specs.declared.ids.Section.{Section}
use Rattle.rt_ids.specs.declared.limits.TheConstants.{IRQ_NUMBERS}
use Rattle.rt_trace.specs.Label.{Label, Arrived, Ticked, Rang, Stepped}
use Rattle.rt_trace.specs.declared.item.What.{What}
use Rattle.rt_trace.specs.declared.item.What.TheVariants as what
use Rattle.rt_app.specs.Tree.{App}
use Rattle.rt_laws.specs.Services.{priority_of, timer_number}

-- a job as an observer sees it
pub record Seen : Type 0 where
  pub priority : ℕ
  -- the sections that it is inside, innermost first, and the core step in which it entered each; the step names this
  -- one section of this one job
  pub inside : List Section
  pub since : List ℕ

-- what an observer knows at one moment: the jobs, the pending interrupts, and how many core steps were taken
pub record Observer : Type 0 where
  -- the last taken first, the thread last; the first of them runs
  pub jobs : List Seen
  -- by interrupt number
  pub pending : List Bool
  -- the core steps until now
  pub steps : ℕ

-- the running job is inside the section
abbrev pub IsInside : List Seen → Section → Type 0
IsInside [] x = ⊥
IsInside (job ∷ others) x = IsIn job.inside x

-- a job that is inside nothing
abbrev pub outside : ℕ → Seen
outside priority = record { priority = priority; inside = []; since = [] }

-- What an observer knows at reset: the thread begins as `init`, which has the greatest priority, since interrupts are
-- masked.
abbrev pub first_sight : App → Observer
first_sight app = record { jobs = outside (2 ^ app.bits) ∷ []; pending = replicate IRQ_NUMBERS false; steps = 0 }

-- the running job becomes another
abbrev pub on_running : (Seen → Seen) → List Seen → List Seen
on_running f [] = []
on_running f (job ∷ others) = f job ∷ others

-- what an observer knows after an interrupt becomes pending
abbrev pub sight_after_pend : ℕ → Observer → Observer
sight_after_pend irq v = record v { pending = slice_set v.pending irq true }

-- a section is entered in this step
abbrev pub seen_after_enter : Section → ℕ → Seen → Seen
seen_after_enter x step job = record job { inside = x ∷ job.inside; since = step ∷ job.since }

-- the innermost section is left, whichever one the leave names; that it names this one is said by `SectionsNest`
abbrev pub seen_after_leave : Seen → Seen
seen_after_leave job = record job { inside = drop 1 job.inside; since = drop 1 job.since }

module _ (app : App) where
  -- what an observer learns by the item of a step
  abbrev pub sight_after_item : Observer → What → Observer
  sight_after_item v (what.Take irq depth) =
      record v { pending = slice_set v.pending irq false; jobs = outside (priority_of app irq) ∷ v.jobs }
  sight_after_item v (what.Ret irq) = record v { jobs = drop 1 v.jobs }
  sight_after_item v (what.Enter x) = record v { jobs = on_running (seen_after_enter x v.steps) v.jobs }
  sight_after_item v (what.Leave x value) = record v { jobs = on_running seen_after_leave v.jobs }
  sight_after_item v (what.Post irq) = sight_after_pend irq v
  sight_after_item v what.Alarm = sight_after_pend (timer_number app) v
  -- `init` ends, and the thread goes on below all tasks
  sight_after_item v (what.End body.Init) = record v { jobs = on_running (λ job. record job { priority = 0 }) v.jobs }
  sight_after_item v w = v

  -- what an observer knows after a label
  abbrev pub sees : Observer → Label → Observer
  sees v (Arrived irq) = sight_after_pend irq v
  sees v Ticked = v
  sees v Rang = sight_after_pend (timer_number app) v
  sees v (Stepped None) = record v { steps = suc v.steps }
  sees v (Stepped (Some w)) = record (sight_after_item v w) { steps = suc v.steps }

  -- what an observer knows after these labels
  abbrev pub sees_all : Observer → List Label → Observer
  sees_all v [] = v
  sees_all v (label ∷ labels) = sees_all (sees v label) labels
