-- What it means that the lines of `bounds` hold of runs: no job and no stay in a section takes more steps of its own
-- than its line says, and no more bytes of the stack are in use. It is said of the jobs as one sees them who watches
-- the core. Steps of others that come between do not count: they are exception entries and steps of other jobs.
use Rattle.std.specs.Prelude.{◌≡◌, ℕ, ◌<◌, ◌≤◌, List, Some, slice_get}
use Rattle.std.specs.List.{AllByRecursion, Contains}
use Rattle.rt_ids.specs.Event.{Event}
use Rattle.rt_code.specs.Image.{Image}
use Rattle.rt_code.specs.declared.image.IrqRow.{IrqRow}
use Rattle.rt_core.specs.Trace.{depth_after}
use Rattle.rt_points.specs.Checked.{IsChecked}
use Rattle.rt_points.specs.declared.point.Owner.{Owner}
use Rattle.rt_points.specs.declared.point.Owner.TheVariants as owner
use Rattle.rt_bounds.specs.Bounds.{AreBounds}
use Rattle.rt_bounds.specs.declared.bound.Bounds.{Bounds}
use Rattle.rt_bounds.specs.declared.bound.HandlerBound.{HandlerBound}
use Rattle.rt_bounds.specs.declared.bound.SectionBound.{SectionBound}
use Rattle.rt_bounds.specs.declared.longest.Longest.{Longest}
use Rattle.rt_bounds.specs.declared.longest.Longest.TheVariants.{Steps, Loop}
use Rattle.rt_timely.specs.Watching.{Whose, Init, Thread, Handler, SeenJob, Stay, Watch, watched}

-- fewer steps than a bound says, where it says a number
abbrev pub IsBelow : Longest → ℕ → Type 0
IsBelow (Steps n) steps = steps < n
IsBelow (Loop address) steps = Unit {0}

-- no more steps than a bound says, where it says a number
abbrev pub IsNoMore : Longest → ℕ → Type 0
IsNoMore (Steps n) steps = steps ≤ n
IsNoMore (Loop address) steps = Unit {0}

-- the row at this index is of the interrupt of this number
pub record IsNumbered (img : Image) (index irq : ℕ) : Type 0 where
  pub row : IrqRow
  pub at : slice_get img.irqs index ≡ Some row
  pub number : row.number ≡ irq

-- a job of this owner
abbrev pub IsOf : Image → Owner → Whose → Type 0
IsOf img owner.Starting Init = Unit {0}
IsOf img owner.Thread Thread = Unit {0}
IsOf img (owner.Handling index) (Handler irq) = IsNumbered img index irq
IsOf img other whose = ⊥

-- the bound of `init`, or of a handler, is told
abbrev pub IsToldOf : Bounds → Owner → Longest → Type 0
IsToldOf b owner.Starting longest = b.init ≡ longest
IsToldOf b owner.Thread longest = ⊥
IsToldOf b (owner.Handling index) longest =
    (row : HandlerBound) × Contains b.handlers.items row × (row.index ≡ index) × (row.longest ≡ longest)

-- these steps of a job are as few as each line of it says
abbrev pub KeepsLines : Image → Bounds → (Longest → ℕ → Type 0) → SeenJob → Type 0
KeepsLines img b AreFew job =
    (who : Owner) (longest : Longest) → IsOf img who job.whose → IsToldOf b who longest → AreFew longest job.steps

-- a job that goes on has taken fewer steps than its line says, so by so many it has ended; and one that has ended took
-- no more
pub record AreInTime (img : Image) (b : Bounds) (w : Watch) : Type 0 where
  pub going : AllByRecursion (KeepsLines img b IsBelow) w.jobs
  pub ended : AllByRecursion (KeepsLines img b IsNoMore) w.ended

-- the steps of a stay are as few as each line of its section says
abbrev pub KeepsSectionLines : Image → Bounds → (Longest → ℕ → Type 0) → Whose → Stay → Type 0
KeepsSectionLines img b AreFew whose stay =
    (row : SectionBound) → Contains b.sections.items row → IsOf img row.owner whose → row.section ≡ stay.section
    → AreFew row.longest stay.steps

-- a job that is inside a section has taken fewer steps since the entering, which counts, than the section's line says,
-- so by so many it has left it; and from each entering to the leaving, both counted, it took no more
pub record AreLeftInTime (img : Image) (b : Bounds) (w : Watch) : Type 0 where
  pub inside : AllByRecursion (λ job. AllByRecursion (KeepsSectionLines img b IsBelow job.whose) job.inside) w.jobs
  pub left : AllByRecursion (λ one. KeepsSectionLines img b IsNoMore one.whose one.stay) w.left

-- jobs end in time on every run of a checked image
abbrev pub JobsEndInTime : Type 0
JobsEndInTime =
    (img : Image) (b : Bounds) (events : List Event) → IsChecked img → AreBounds img b
    → AreInTime img b (watched img events)

-- sections are left in time on every run of a checked image
abbrev pub SectionsEndInTime : Type 0
SectionsEndInTime =
    (img : Image) (b : Bounds) (events : List Event) → IsChecked img → AreBounds img b
    → AreLeftInTime img b (watched img events)

-- no more bytes of the stack are in use than are told
abbrev pub StackIsEnough : Type 0
StackIsEnough =
    (img : Image) (b : Bounds) (events : List Event) → IsChecked img → AreBounds img b
    → depth_after img events ≤ b.stack
