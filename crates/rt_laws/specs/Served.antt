-- That messages are served, in every run (Baker, Stack-Based Scheduling of Realtime Processes, 1991; the RTIC 1 book,
-- software tasks and the monotonic). Where a message is ready and no job has the section of its ready queue open, the
-- dispatcher of the level is about to enter that section: its interrupt is pending, or it has started and has done no
-- action yet. The same holds of the timer handler, where a message is due and no job has the section of the timer queue
-- open. Both begin with entering the section. The code posts the interrupt, or sets the alarm, inside the section.
use Rattle.std.specs.Prelude.{◌≡◌, ℕ, ◌⊎◌, true, false, Contains, List, [], ◌∷◌, slice_index_or, Some}
use Rattle.rt_ids.specs.Choice.{IsIn}
use Rattle.rt_actions.specs.Location.{Guarded}
use Rattle.rt_actions.specs.Content.{Values, messages}
use Rattle.rt_ids.specs.declared.ids.Section.{Section}
use Rattle.rt_ids.specs.declared.ids.Section.TheVariants as section
use Rattle.rt_app.specs.declared.app.Mono.{Mono}
use Rattle.rt_app.specs.Tree.{App}
use Rattle.rt_app.specs.Level.{levels}
use Rattle.rt_app.specs.Handlers.{Handler, Dispatches, Times}
use Rattle.rt_app.specs.Sending.{dispatcher_number}
use Rattle.rt_app.specs.Doings.{handler_doing}
use Rattle.rt_laws.specs.Services.{timer_number}
use Rattle.rt_laws.specs.State.{Serving, Job, State}
use Rattle.rt_laws.specs.Giving.{next_instant, is_due}

-- some job has the section open
abbrev pub IsOpen : List Job → Section → Type 0
IsOpen [] x = ⊥
IsOpen (job ∷ others) x = IsIn job.sections x ⊎ IsOpen others x

-- some started job serves the interrupt, and has all of this handler left to do
abbrev pub HasAllToDo : App → List Job → ℕ → Handler → Type 0
HasAllToDo app [] irq handler = ⊥
HasAllToDo app (job ∷ others) irq handler =
    ((job.role ≡ Serving irq) × ((vs : Values) × (job.rest ≡ handler_doing app handler vs)))
    ⊎ HasAllToDo app others irq handler

-- the interrupt is pending, or a job that serves it has all of this handler left to do
abbrev pub IsServed : App → State → ℕ → Handler → Type 0
IsServed app s irq handler = (slice_index_or s.pending irq false ≡ true) ⊎ HasAllToDo app s.jobs irq handler

-- a level of software tasks serves its ready messages
abbrev pub ServesLevel : App → State → ℕ → Type 0
ServesLevel app s p =
    ¬ (messages (s.values (Guarded (section.Ready p))) ≡ []) → ¬ IsOpen s.jobs (section.Ready p)
    → IsServed app s (dispatcher_number app p) (Dispatches p)

-- each level of software tasks serves its ready messages
abbrev pub ServesReady : App → State → Type 0
ServesReady app s = (p : ℕ) → Contains (levels app) p → ServesLevel app s p

-- the monotonic serves the messages that are due; an alarm that is owed comes first
abbrev pub ServesDue : App → State → Type 0
ServesDue app s =
    (mono : Mono) → app.mono ≡ Some mono → s.owing ≡ false → is_due s.time (next_instant s) ≡ true
    → ¬ IsOpen s.jobs section.Timer → IsServed app s (timer_number app) Times
