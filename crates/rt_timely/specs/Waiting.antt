-- How an interrupt waits for jobs of lower priority on a run of an image (Baker, Stack-Based Scheduling of Realtime
-- Processes, 1991, on blocking: a job is blocked for at most one outermost section of one job, and not once it has
-- started). It is said of who takes the steps from a moment at which an interrupt is pending until its take, as one
-- sees them who watches the core. `init` has the greatest priority, so what passes before its end does not count.
use Rattle.std.specs.Prelude.{◌≡◌, ℕ, ◌<◌, ◌≤◌, ◌==◌, ◌⊎◌, nat_lt, Bool, true, false, if◌then◌else◌, List, [], ◌∷◌}
use Rattle.std.specs.Prelude.{◌++◌, length, take, filter, slice_get, slice_index_or, Option, Some, None}
use Rattle.std.specs.List.{AllByRecursion, Contains}
use Rattle.rt_ids.specs.Choice.{IsIn}
use Rattle.rt_ids.specs.Event.{Event, Step}
use Rattle.rt_ids.specs.Priority.{hardware}
use Rattle.rt_trace.specs.declared.item.What.{What}
use Rattle.rt_trace.specs.declared.item.What.TheVariants as what
use Rattle.rt_code.specs.Image.{Image}
use Rattle.rt_code.specs.declared.image.Handler.{Handler}
use Rattle.rt_code.specs.declared.image.IrqRow.{IrqRow}
use Rattle.rt_core.specs.Core.{Core, reset}
use Rattle.rt_core.specs.Stepping.{step}
use Rattle.rt_core.specs.Trace.{happen, core_after}
use Rattle.rt_points.specs.Checked.{IsChecked}
use Rattle.rt_bounds.specs.Bounds.{AreBounds}
use Rattle.rt_bounds.specs.declared.bound.Bounds.{Bounds}
use Rattle.rt_bounds.specs.declared.bound.WaitBound.{WaitBound}
use Rattle.rt_bounds.specs.declared.longest.Longest.{Longest}
use Rattle.rt_bounds.specs.declared.longest.Longest.TheVariants.{Steps, Loop}
use Rattle.rt_timely.specs.Watching.{Stay, SeenJob, Watch, after_event, watched}

-- who takes a step that shows this item, as the job is before it; exception entry is a step of none
abbrev pub stepper_by : Option What → List SeenJob → List SeenJob
stepper_by (Some (what.Take irq depth)) jobs = []
stepper_by shown jobs = take 1 jobs

-- who takes a step at an event
abbrev pub stepper : Image → Core → Watch → Event → List SeenJob
stepper img c w Step = stepper_by (step img c).1 w.jobs
stepper img c w e = []

-- whether an item is the take of this interrupt
abbrev pub shows_take : ℕ → Option What → Bool
shows_take irq (Some (what.Take taken depth)) = taken == irq
shows_take irq shown = false

-- whether an event is the take of this interrupt
abbrev pub is_its_take : Image → Core → ℕ → Event → Bool
is_its_take img c irq Step = shows_take irq (step img c).1
is_its_take img c irq e = false

-- who takes the steps of these events, up to the take of an interrupt
unfoldable pub steppers : Image → ℕ → Core → Watch → List Event → List SeenJob
steppers img irq c w [] = []
steppers img irq c w (e ∷ events) =
    if is_its_take img c irq e then []
    else stepper img c w e ++ steppers img irq (happen img c e).0 (after_event img c w e) events

-- of these jobs those of a priority below that of a value: they have greater values
abbrev pub lower : ℕ → List SeenJob → List SeenJob
lower value jobs = filter (λ job. nat_lt value job.value) jobs

-- A stay holds a priority value off: behind the entering an interrupt of this value is not taken, and before it was. So
-- the section is the outermost of its job that holds the value off.
abbrev pub StayHoldsOff : ℕ → Stay → Type 0
StayHoldsOff value stay = (value < stay.outside) × (stay.within ≤ value)

-- the job is in the stay that began at this core step, and that holds a priority value off
pub record IsHeldIn (value since : ℕ) (job : SeenJob) : Type 0 where
  pub stay : Stay
  pub among : IsIn job.inside stay
  pub began : stay.since ≡ since
  pub holds : StayHoldsOff value stay

-- these steps are none, or fewer than is told of a wait, where it is a number; the entering of the section, which
-- comes before the waiting, makes up the number
abbrev pub AreFewer : Option Longest → List SeenJob → Type 0
AreFewer None steps = steps ≡ []
AreFewer (Some (Steps n)) steps = (steps ≡ []) ⊎ (length steps < n)
AreFewer (Some (Loop address)) steps = Unit {0}

-- all these steps lie in one stay of one job, named by the core step at which it began, and they are few
pub record LieInOneSection (value : ℕ) (longest : Option Longest) (steps : List SeenJob) : Type 0 where
  pub since : ℕ
  pub inside : AllByRecursion (IsHeldIn value since) steps
  pub few : AreFewer longest steps

-- an interrupt is pending
abbrev pub IsPending : Core → ℕ → Type 0
IsPending c irq = slice_index_or c.pending irq false ≡ true

-- an enabled interrupt is pending after events, and this line is told of its priority
pub record IsWaiting (img : Image) (b : Bounds) (irq value : ℕ) (longest : Option Longest) (events : List Event)
    : Type 0 where
  pub index : ℕ
  pub row : IrqRow
  pub at : slice_get img.irqs index ≡ Some row
  pub number : row.number ≡ irq
  pub handler : Handler
  pub enabled : row.handler ≡ Some handler
  pub valued : handler.value ≡ value
  pub pending : IsPending (core_after img (reset img) events) irq
  pub wait : WaitBound
  pub told : Contains b.waits.items wait
  pub priority : hardware img.bits wait.priority ≡ value
  pub long : wait.longest ≡ longest

-- Whatever happens from a moment on at which an interrupt is pending, the steps of lower jobs until its take lie in one
-- section that holds it off, and are fewer than is told.
abbrev pub WaitsAreShort : Type 0
WaitsAreShort =
    (img : Image) (b : Bounds) (irq value : ℕ) (longest : Option Longest) (before behind : List Event)
    → IsChecked img → AreBounds img b → IsWaiting img b irq value longest before
    → LieInOneSection value longest
    (lower value (steppers img irq (core_after img (reset img) before) (watched img before) behind))

-- the job that runs has a higher priority than all others that go on
abbrev pub RunsTheHighest : List SeenJob → Type 0
RunsTheHighest [] = Unit {0}
RunsTheHighest (job ∷ others) = AllByRecursion (λ other. job.value < other.value) others

-- So a job does not wait for lower ones once it has started: from its take to its return, whatever happens, no job of a
-- lower priority takes a step.
abbrev pub NoneWaitsOnceStarted : Type 0
NoneWaitsOnceStarted =
    (img : Image) (events : List Event) → IsChecked img → RunsTheHighest (watched img events).jobs
