-- That `bounds` tells of all that a run shows: a line of each job, of each section and of each priority, so that what
-- holds of the lines does not hold for want of them.
use Rattle.std.specs.Prelude.{◌≡◌, ℕ, ◌<◌, ◌^◌, List, slice_get, Some}
use Rattle.std.specs.List.{AllByRecursion, Contains}
use Rattle.rt_ids.specs.Event.{Event}
use Rattle.rt_ids.specs.Priority.{hardware}
use Rattle.rt_ids.specs.declared.ids.Section.{Section}
use Rattle.rt_code.specs.Image.{Image}
use Rattle.rt_code.specs.declared.image.Handler.{Handler}
use Rattle.rt_code.specs.declared.image.IrqRow.{IrqRow}
use Rattle.rt_points.specs.Checked.{IsChecked}
use Rattle.rt_points.specs.Limits.{IsWithinLimits}
use Rattle.rt_points.specs.declared.point.Owner.{Owner}
use Rattle.rt_bounds.specs.Bounds.{AreBounds}
use Rattle.rt_bounds.specs.declared.bound.Bounds.{Bounds}
use Rattle.rt_bounds.specs.declared.bound.SectionBound.{SectionBound}
use Rattle.rt_bounds.specs.declared.bound.WaitBound.{WaitBound}
use Rattle.rt_bounds.specs.declared.longest.Longest.{Longest}
use Rattle.rt_timely.specs.InTime.{IsOf, IsToldOf}
use Rattle.rt_timely.specs.Watching.{Whose, Thread, Watch, watched}

-- a line is told of whose job it is; what the thread does behind `init` need not end, and has none
abbrev pub HasJobLine : Image → Bounds → Whose → Type 0
HasJobLine img b Thread = Unit {0}
HasJobLine img b whose = (who : Owner) × (longest : Longest) × IsOf img who whose × IsToldOf b who longest

-- a line is told of a section and who is inside it
abbrev pub HasSectionLine : Image → Bounds → Whose → Section → Type 0
HasSectionLine img b whose x =
    (row : SectionBound) × Contains b.sections.items row × IsOf img row.owner whose × (row.section ≡ x)

-- a line is told of each job and each section that was seen
pub record AreTold (img : Image) (b : Bounds) (w : Watch) : Type 0 where
  pub jobs : AllByRecursion (λ job. HasJobLine img b job.whose) w.jobs
  pub ended : AllByRecursion (λ job. HasJobLine img b job.whose) w.ended
  pub inside : AllByRecursion (λ job. AllByRecursion (λ stay. HasSectionLine img b job.whose stay.section) job.inside)
      w.jobs
  pub left : AllByRecursion (λ one. HasSectionLine img b one.whose one.stay.section) w.left

-- whatever a run of a checked image shows, its lines are told
abbrev pub RunsAreTold : Type 0
RunsAreTold =
    (img : Image) (b : Bounds) (events : List Event) → IsChecked img → AreBounds img b
    → AreTold img b (watched img events)

-- a line is told of the wait of each enabled interrupt, whose priority value is one of 8 bits
abbrev pub WaitsAreTold : Type 0
WaitsAreTold =
    (img : Image) (b : Bounds) (index : ℕ) (row : IrqRow) (h : Handler) → IsWithinLimits img → IsChecked img
    → AreBounds img b → slice_get img.irqs index ≡ Some row → row.handler ≡ Some h → h.value < 2 ^ 8
    → (wait : WaitBound) × Contains b.waits.items wait × (hardware img.bits wait.priority ≡ h.value)
