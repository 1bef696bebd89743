-- That response times of images hold of runs, for every list of events.
use Rattle.std.specs.Prelude.{◌≡◌, ℕ, ◌<◌, ◌^◌, false, List, slice_get, Some}
use Rattle.rt_ids.specs.Event.{Event}
use Rattle.rt_code.specs.Image.{Image}
use Rattle.rt_code.specs.declared.image.Handler.{Handler}
use Rattle.rt_code.specs.declared.image.IrqRow.{IrqRow}
use Rattle.rt_core.specs.Core.{reset}
use Rattle.rt_core.specs.Trace.{labels}
use Rattle.rt_points.specs.Checked.{IsChecked}
use Rattle.rt_points.specs.Limits.{IsWithinLimits}
use Rattle.rt_bounds.specs.Bounds.{AreBounds}
use Rattle.rt_bounds.specs.declared.bound.Bounds.{Bounds}
use Rattle.rt_rta.specs.Kept.{Kept, KeptOnceInitEnds}
use Rattle.rt_rta.specs.declared.limits.Limit.{Limit}
use Rattle.rt_image_times.specs.Form.{requests_itself}
use Rattle.rt_image_times.specs.Limits.{AreImageLimits}
use Rattle.rt_image_times.specs.Response.{AreTimes}
use Rattle.rt_image_times.specs.declared.response.Response.{Response}
use Rattle.rt_image_times.specs.declared.response.TimeBound.{TimeBound}
use Rattle.rt_image_times_laws.specs.Served.{HasResponse, RespondsTo, RespondsToOnceInitEnds}

-- these response times are told of an image that is checked and requests no interrupt itself
pub record AreTimesOfChecked (img : Image) (b : Bounds) (limits : List Limit) (rows : List TimeBound) : Type 0 where
  pub within : IsWithinLimits img
  pub checked : IsChecked img
  pub form : requests_itself img ≡ false
  pub bounds : AreBounds img b
  pub limits_fit : AreImageLimits img limits
  pub times : AreTimes img b limits rows

-- Response times are met, where requests keep the limits.
abbrev pub ImagesRespond : Type 0
ImagesRespond =
    (img : Image) (b : Bounds) (limits : List Limit) (rows : List TimeBound) → AreTimesOfChecked img b limits rows
    → (events : List Event) → Kept limits (labels img (reset img) events)
    → RespondsTo img rows (labels img (reset img) events)

-- Response times are met once `init` ends, also where interrupts are requested during `init`.
abbrev pub ImagesRespondOnceInitEnds : Type 0
ImagesRespondOnceInitEnds =
    (img : Image) (b : Bounds) (limits : List Limit) (rows : List TimeBound) → AreTimesOfChecked img b limits rows
    → (events : List Event) → KeptOnceInitEnds limits (labels img (reset img) events)
    → RespondsToOnceInitEnds img rows (labels img (reset img) events)

-- A response is told of each enabled interrupt, so that what holds of the rows does not hold for want of them.
abbrev pub TimesAreTold : Type 0
TimesAreTold =
    (img : Image) (b : Bounds) (limits : List Limit) (rows : List TimeBound) → AreTimesOfChecked img b limits rows
    → (index : ℕ) (row : IrqRow) (h : Handler) → slice_get img.irqs index ≡ Some row → row.handler ≡ Some h
    → h.value < 2 ^ 8
    → (told : Response) × HasResponse img rows row.number told
