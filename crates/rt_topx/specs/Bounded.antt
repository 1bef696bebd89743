-- What `bounds` writes of a text that is the listing of an image, whatever made it: bounds in core steps, which hold on
-- every run of the image, or the rule that it breaks. The form is this project's own.
use Rattle.std.specs.Prelude.{◌≡◌, ℕ, ◌≤◌, true, false, List, Option, ◌++◌, codes, decimal}
use Rattle.rt_ids.specs.Event.{Event}
use Rattle.rt_ids.specs.declared.status.Status.{Status}
use Rattle.rt_ids.specs.declared.status.Status.TheVariants as status
use Rattle.rt_code.specs.Image.{Image}
use Rattle.rt_core.specs.Core.{reset}
use Rattle.rt_core.specs.Trace.{core_after, depth_after, labels}
use Rattle.rt_image_times.specs.Form.{requests_itself}
use Rattle.rt_image_times.specs.Report.{times_text}
use Rattle.rt_image_times.specs.Response.{AreTimes}
use Rattle.rt_image_times.specs.Text.{IsImageLimitsText}
use Rattle.rt_image_times.specs.declared.response.TimeBound.{TimeBound}
use Rattle.rt_image_times_laws.specs.Served.{RespondsTo, RespondsToOnceInitEnds}
use Rattle.rt_load.specs.Reading.{IsListingText}
use Rattle.rt_points.specs.Checked.{IsChecked, IsLeastBroken}
use Rattle.rt_bounds.specs.Bounds.{AreBounds}
use Rattle.rt_bounds.specs.Text.{bounds_text}
use Rattle.rt_bounds.specs.declared.bound.Bounds.{Bounds}
use Rattle.rt_bounds.specs.declared.longest.Longest.{Longest}
use Rattle.rt_rta.specs.Kept.{Kept, KeptOnceInitEnds}
use Rattle.rt_rta.specs.declared.limits.Limit.{Limit}
use Rattle.rt_timely.specs.InTime.{AreInTime, AreLeftInTime}
use Rattle.rt_timely.specs.Told.{AreTold}
use Rattle.rt_timely.specs.Waiting.{IsWaiting, LieInOneSection, RunsTheHighest, lower, steppers}
use Rattle.rt_timely.specs.Watching.{watched}

-- bounds hold on every run of an image, for every list of events
pub record HoldOnRuns (image : Image) (b : Bounds) : Type 0 where
  -- a line is told of each job and each section that is seen
  pub told : (events : List Event) → AreTold image b (watched image events)
  -- jobs end, and sections are left, by the last step of their lines
  pub jobs : (events : List Event) → AreInTime image b (watched image events)
  pub sections : (events : List Event) → AreLeftInTime image b (watched image events)
  -- where an interrupt is pending, lower jobs take steps in one section, fewer than are told, until its take, and none
  -- from there on
  pub waits : (irq value : ℕ) (longest : Option Longest) (before behind : List Event)
      → IsWaiting image b irq value longest before
      → LieInOneSection value longest
      (lower value (steppers image irq (core_after image (reset image) before) (watched image before) behind))
  pub started : (events : List Event) → RunsTheHighest (watched image events).jobs
  -- the stack is enough
  pub stack : (events : List Event) → depth_after image events ≤ b.stack

-- response times hold on every run of an image whose requests keep limits, for every list of events
pub record TimesHoldOnRuns (image : Image) (limits : List Limit) (rows : List TimeBound) : Type 0 where
  -- each request is served within the response time of its interrupt, where nothing is requested before `init` ends
  pub late : (events : List Event) → Kept limits (labels image (reset image) events)
      → RespondsTo image rows (labels image (reset image) events)
  -- and where interrupts may be requested during `init` too, from its end on
  pub once_init_ends : (events : List Event) → KeptOnceInitEnds limits (labels image (reset image) events)
      → RespondsToOnceInitEnds image rows (labels image (reset image) events)

-- the status and the text for an image
pub data TellsBounds (image : Image) : Status → List ℕ → Type 0 where
  -- it keeps each rule, and these are its bounds
  has_bounds : (b : Bounds) → IsChecked image → AreBounds image b → HoldOnRuns image b
      → TellsBounds image status.Done (bounds_text image b)
  -- the least of the rules that it breaks
  breaks : (rule : ℕ) → IsLeastBroken image rule → TellsBounds image status.No
      (codes "no " ++ decimal rule ++ codes "\n")

-- `bounds`: the status and the text for the listing of an image
abbrev pub IsBounded : List ℕ → Status → List ℕ → Type 0
IsBounded text ended bytes = (image : Image) × IsListingText text image × TellsBounds image ended bytes

-- the status and the text for an image under limits
pub data TellsTimedBounds (image : Image) (limits : List Limit) : Status → List ℕ → Type 0 where
  -- it keeps each rule, no instruction of it requests an interrupt, and these are its bounds and its response times
  has_times : (b : Bounds) → (rows : List TimeBound) → IsChecked image → requests_itself image ≡ false
      → AreBounds image b → HoldOnRuns image b → AreTimes image b limits rows → TimesHoldOnRuns image limits rows
      → TellsTimedBounds image limits status.Done (bounds_text image b ++ times_text rows)
  -- an instruction of it does
  is_of_no_form : IsChecked image → requests_itself image ≡ true
      → TellsTimedBounds image limits status.No (codes "no\n")
  -- the least of the rules that it breaks
  breaks_one : (rule : ℕ) → IsLeastBroken image rule → TellsTimedBounds image limits status.No
      (codes "no " ++ decimal rule ++ codes "\n")

-- `bounds` with limits: the status and the text for the listing of an image and limits of its requests
pub record IsBoundedUnder (text more : List ℕ) (ended : Status) (bytes : List ℕ) : Type 0 where
  pub image : Image
  pub of_text : IsListingText text image
  pub limits : List Limit
  pub read : IsImageLimitsText image more limits
  pub tells : TellsTimedBounds image limits ended bytes
