-- The jobs of a run as one sees them who watches a core. A job is one run of a handler from its take to its return, or
-- `init`, or what the thread does behind it (Baker, Stack-Based Scheduling of Realtime Processes, 1991, has a job as
-- one execution of a process). A core step is a step of the job that runs, the last one taken; exception entry is a
-- step of none. What is read is what the core shows and its execution priority (ARMv7-M Architecture Reference Manual,
-- section B1.5.4), and nothing of the code: no point, no way and no bound is named here.
use Rattle.std.specs.Prelude.{ℕ, suc, List, [], ◌∷◌, ◌++◌, map, take, drop, Option, Some}
use Rattle.rt_ids.specs.Event.{Event, Step}
use Rattle.rt_ids.specs.declared.ids.BodyId.TheVariants as body
use Rattle.rt_ids.specs.declared.ids.Section.{Section}
use Rattle.rt_trace.specs.declared.item.What.{What}
use Rattle.rt_trace.specs.declared.item.What.TheVariants as what
use Rattle.rt_code.specs.Image.{Image}
use Rattle.rt_core.specs.Core.{Core, reset}
use Rattle.rt_core.specs.Priority.{execution}
use Rattle.rt_core.specs.Stepping.{step}
use Rattle.rt_core.specs.Trace.{happen}

-- whose job it is: `init`, the thread behind it, or the handler of the interrupt of this number
pub data Whose : Type 0 where
  Init : Whose
  Thread : Whose
  Handler : (irq : ℕ) → Whose

-- how long a job has been inside a section that it entered
pub record Stay : Type 0 where
  pub section : Section
  -- the core step in which it was entered, by the number of core steps before; it names this one stay
  pub since : ℕ
  -- how many steps the job has taken since; the entering is the first
  pub steps : ℕ
  -- the execution priority before the entering, and behind it, as priority values
  pub outside : ℕ
  pub within : ℕ

-- a job at one moment
pub record SeenJob : Type 0 where
  pub whose : Whose
  -- the execution priority where it began, as a priority value
  pub value : ℕ
  -- how many steps it has taken
  pub steps : ℕ
  -- the sections that it is inside, innermost first
  pub inside : List Stay

-- a stay that is over, and whose it was
pub record LeftStay : Type 0 where
  pub whose : Whose
  pub stay : Stay

-- what one knows who has watched a core from its reset on
pub record Watch : Type 0 where
  -- the jobs that go on, the last taken first, the thread last; the first of them runs
  pub jobs : List SeenJob
  -- those that have ended, with the step by which each ended
  pub ended : List SeenJob
  -- the stays that are over, with the step by which each section was left
  pub left : List LeftStay
  -- the core steps until now
  pub steps : ℕ

-- a job that begins
abbrev pub begun : Whose → Core → SeenJob
begun whose c = record { whose = whose; value = execution c; steps = 0; inside = [] }

-- at reset `init` begins
abbrev pub first_watch : Image → Watch
first_watch img = record { jobs = begun Init (reset img) ∷ []; ended = []; left = []; steps = 0 }

-- a stay after one more step of its job
abbrev pub longer : Stay → Stay
longer stay = record {
  section = stay.section;
  since = stay.since;
  steps = suc stay.steps;
  outside = stay.outside;
  within = stay.within;
}

-- a job after one more step
abbrev pub stepped : SeenJob → SeenJob
stepped job = record {
  whose = job.whose;
  value = job.value;
  steps = suc job.steps;
  inside = map longer job.inside;
}

-- a job that is inside this section too
abbrev pub inside_too : Stay → SeenJob → SeenJob
inside_too stay job =
    record { whose = job.whose; value = job.value; steps = job.steps; inside = stay ∷ job.inside }

-- a job that has left the section that it entered last
abbrev pub outside_again : SeenJob → SeenJob
outside_again job =
    record { whose = job.whose; value = job.value; steps = job.steps; inside = drop 1 job.inside }

-- the job that runs becomes another
abbrev pub on_running : (SeenJob → SeenJob) → List SeenJob → List SeenJob
on_running f [] = []
on_running f (job ∷ others) = f job ∷ others

-- the job that runs, by its last step
abbrev pub ending : List SeenJob → List SeenJob
ending jobs = map stepped (take 1 jobs)

-- the stay that the job that runs is in last, by its last step
abbrev pub leaving : List SeenJob → List LeftStay
leaving [] = []
leaving (job ∷ others) = map (λ stay. record { whose = job.whose; stay = longer stay }) (take 1 job.inside)

module _ (before after : Core) where
  -- the stay that begins as a section is entered
  abbrev pub entered : Section → ℕ → Stay
  entered x step =
      record { section = x; since = step; steps = 1; outside = execution before; within = execution after }

  -- what a core step with this item makes of what one knew
  abbrev pub seen_by : Option What → Watch → Watch
  seen_by (Some (what.Take irq depth)) w = record w { jobs = begun (Handler irq) after ∷ w.jobs }
  seen_by (Some (what.Ret irq)) w = record w { jobs = drop 1 w.jobs; ended = ending w.jobs ++ w.ended }
  seen_by (Some (what.End body.Init)) w =
      record w { jobs = on_running (λ job. begun Thread after) w.jobs; ended = ending w.jobs ++ w.ended }
  seen_by (Some (what.Enter x)) w =
      record w { jobs = on_running (λ job. inside_too (entered x w.steps) (stepped job)) w.jobs }
  seen_by (Some (what.Leave x value)) w =
      record w { jobs = on_running (λ job. outside_again (stepped job)) w.jobs; left = leaving w.jobs ++ w.left }
  seen_by shown w = record w { jobs = on_running stepped w.jobs }

-- what one knows after a core step, which gave this core and this item
abbrev pub after_step : Core → Watch → Core × Option What → Watch
after_step before w done = record (seen_by before done.0 done.1 w) { steps = suc w.steps }

-- what one knows after an event
abbrev pub after_event : Image → Core → Watch → Event → Watch
after_event img c w Step = after_step c w (step img c)
after_event img c w e = w

-- what one knows after events
unfoldable pub after_events : Image → Core → Watch → List Event → Watch
after_events img c w [] = w
after_events img c w (e ∷ events) = after_events img (happen img c e).0 (after_event img c w e) events

-- what one knows of an image's run after events from reset
abbrev pub watched : Image → List Event → Watch
watched img events = after_events img (reset img) (first_watch img) events
