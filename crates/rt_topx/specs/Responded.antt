-- What `respond` writes of an application under limits: response times, the room of messages, what comes of requests,
-- the load, and deadlines (the definitions are those of rt_respond, whose files name their sources). Of each image of
-- an application of the form it is promised that its requests and messages are served within these times, and that its
-- messages have room. The form of the text is this project's own.
use Rattle.std.specs.Prelude.{◌≡◌, ℕ, List, true, if◌then◌else◌}
use Rattle.rt_ids.specs.Event.{Event}
use Rattle.rt_ids.specs.declared.status.Status.{Status}
use Rattle.rt_ids.specs.declared.status.Status.TheVariants as status
use Rattle.rt_app.specs.Tree.{App}
use Rattle.rt_build.specs.Accepted.{IsApplication}
use Rattle.rt_build.specs.Image.{IsImageOf}
use Rattle.rt_code.specs.Image.{Image}
use Rattle.rt_core.specs.Core.{reset}
use Rattle.rt_core.specs.Trace.{labels}
use Rattle.rt_rta.specs.Kept.{Kept}
use Rattle.rt_respond.specs.Answer.{IsAnswer}
use Rattle.rt_respond.specs.Form.{is_of_form}
use Rattle.rt_respond.specs.Limits.{Limits}
use Rattle.rt_respond.specs.Text.{IsLimitsText}
use Rattle.rt_respond.specs.declared.answer.Answer.{Answer}
use Rattle.rt_respond_laws.specs.Coming.{CausesWithin}
use Rattle.rt_respond_laws.specs.Moments.{QuietMoments}
use Rattle.rt_respond_laws.specs.Rooms.{KeepsToRoom}
use Rattle.rt_respond_laws.specs.Served.{RespondsEach}
use Rattle.rt_respond_laws.specs.Started.{RunsEach}
use Rattle.rt_sim.specs.Good.{CountsFit}

-- In every trace of the image whose requests keep these limits, from any moment behind the end of `init` on nothing of
-- a handler is left within its response time; so in it each request is served, from outside or of a body, each message
-- that is ready is started and done, and what comes of a request by further jobs is done. In all of it no more places
-- of a task are out than its line of room says, and where that is at most its capacity, no spawn finds the task full.
pub record RespondsEachInTime (app : App) (limits : Limits) (img : Image) : Type 0 where
  pub quiet : (events : List Event) → CountsFit app img events
      → Kept limits.every (labels img (reset img) events)
      → QuietMoments app limits.every (labels img (reset img) events)
  pub served : (events : List Event) → CountsFit app img events
      → Kept limits.every (labels img (reset img) events)
      → RespondsEach app limits (labels img (reset img) events)
  pub run : (events : List Event) → CountsFit app img events
      → Kept limits.every (labels img (reset img) events)
      → RunsEach app limits (labels img (reset img) events)
  pub caused : (events : List Event) → CountsFit app img events
      → Kept limits.every (labels img (reset img) events)
      → CausesWithin app limits (labels img (reset img) events)
  pub roomy : (events : List Event) → CountsFit app img events
      → Kept limits.every (labels img (reset img) events)
      → KeepsToRoom app limits (labels img (reset img) events)

-- the status and the text for an application under limits: the status tells whether a deadline is late
pub record TellsResponses (app : App) (limits : Limits) (ended : Status) (bytes : List ℕ) : Type 0 where
  pub answer : Answer
  pub is : IsAnswer app limits answer
  pub written : bytes ≡ answer.text.items
  pub tells : ended ≡ (if answer.is_late then status.No else status.Done)
  pub in_time : is_of_form app ≡ true → (image : Image) → IsImageOf app image → RespondsEachInTime app limits image

-- `respond`: the answer for an application under limits
pub record IsResponded (text more : List ℕ) (ended : Status) (bytes : List ℕ) : Type 0 where
  pub app : App
  pub of_text : IsApplication text app
  pub limits : Limits
  pub read : IsLimitsText app more limits
  pub tells : TellsResponses app limits ended bytes
