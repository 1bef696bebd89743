-- The reply of bounds and of response times, which hold on every run.
use Rattle.std.proofs.Common.{ℕ, List, sym, subst}
use Rattle.rt_ids.specs.declared.status.Status.{Status}
use Rattle.rt_code.specs.Image.{Image}
use Rattle.rt_points.specs.Checked.{IsChecked}
use Rattle.rt_bounds.specs.Bounds.{AreBounds}
use Rattle.rt_bounds.specs.declared.bound.Bounds.{Bounds}
use Rattle.rt_rta.specs.declared.limits.Limit.{Limit}
use Rattle.rt_image_times.specs.declared.response.TimeBound.{TimeBound}
use Rattle.rt_image_times_laws.specs.Laws.{AreTimesOfChecked}
use Rattle.rt_image_times_laws.proofs.Meeting.{images_respond, images_respond_once_init_ends}
use Rattle.rt_timely.proofs.InTime.{jobs_end_in_time, sections_end_in_time, stack_is_enough}
use Rattle.rt_timely.proofs.Started.{none_waits_once_started}
use Rattle.rt_timely.proofs.Told.{runs_are_told}
use Rattle.rt_timely.proofs.Waiting.{waits_are_short}
use Rattle.rt_top.specs.Inside.Decides.{Tells}
use Rattle.rt_top.specs.Inside.Replies.{Replies}
use Rattle.rt_top.specs.declared.reply.Reply.{Reply}
use Rattle.rt_top.specs.declared.reply.Reply.TheVariants as reply
use Rattle.rt_topx.specs.Bounded.{HoldOnRuns, TimesHoldOnRuns}

-- the bounds of a checked image hold on every run of it
pub hold_on_runs : (image : Image) (b : Bounds) → IsChecked image → AreBounds image b → HoldOnRuns image b
hold_on_runs image b checked are = record {
  told = λ events. runs_are_told image b events checked are;
  jobs = λ events. jobs_end_in_time image b events checked are;
  sections = λ events. sections_end_in_time image b events checked are;
  waits = λ irq value longest before behind waiting.
      waits_are_short image b irq value longest before behind checked are waiting;
  started = λ events. none_waits_once_started image events checked;
  stack = λ events. stack_is_enough image b events checked are;
}

-- the response times of a checked image, none of whose instructions requests an interrupt, hold on every run of it
pub times_hold_on_runs : (image : Image) (b : Bounds) (limits : List Limit) (rows : List TimeBound)
    → AreTimesOfChecked image b limits rows → TimesHoldOnRuns image limits rows
times_hold_on_runs image b limits rows are = record {
  late = images_respond image b limits rows are;
  once_init_ends = images_respond_once_init_ends image b limits rows are;
}

-- a reply of one status, of a text of which more is known
pub tells_replies : (told : Status) (P : List ℕ → Type 0) (Q : Status → List ℕ → Type 0)
    → ((bytes : List ℕ) → P bytes → Q told bytes) → (r : Reply) → Tells told P r → Replies Q r
tells_replies told P Q means (reply.Write ended text) (is, p) =
    subst (λ s. Q s text.items) (sym is) (means text.items p)
tells_replies told P Q means (reply.Stop ended) is = is
