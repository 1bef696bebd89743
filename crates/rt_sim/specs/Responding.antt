-- Images that respond in time: the response times of an application (Joseph and Pandya, Finding Response Times in a
-- Real-Time System, 1986), which `times` prints, hold of what its images show. Only requests have a premise: they keep
-- the least distances that the limits say. In the textbooks' form all come after the end of `init`; in the wider one
-- those that come during `init` count as made at its end. An interrupt with a limit is bound by a task, so it is
-- declared.
use Rattle.std.specs.Prelude.{◌≡◌, true, List}
use Rattle.rt_ids.specs.Event.{Event}
use Rattle.rt_app.specs.Tree.{App}
use Rattle.rt_app.specs.Accepted.{IsAccepted}
use Rattle.rt_app.specs.Forms.{has_response_times}
use Rattle.rt_build.specs.Image.{IsImageOf}
use Rattle.rt_code.specs.Image.{Image}
use Rattle.rt_core.specs.Core.{reset}
use Rattle.rt_core.specs.Trace.{labels}
use Rattle.rt_rta.specs.Kept.{Kept, KeptOnceInitEnds}
use Rattle.rt_rta.specs.Limits.{AreLimits}
use Rattle.rt_rta.specs.Served.{Responds, RespondsOnceInitEnds}
use Rattle.rt_rta.specs.declared.limits.Limit.{Limit}
use Rattle.rt_sim.specs.Good.{CountsFit}

-- in every trace of the image whose requests keep these limits, each of them is served within the response time of its
-- priority
abbrev pub RespondsInTime : App → List Limit → Image → Type 0
RespondsInTime app limits img = (events : List Event) → CountsFit app img events
    → Kept limits (labels img (reset img) events) → Responds app limits (labels img (reset img) events)

-- every image of an accepted application that has response times responds in time, whatever the limits
abbrev pub ImagesRespond : Type 0
ImagesRespond = (app : App) (img : Image) → IsAccepted app → IsImageOf app img → has_response_times app ≡ true
    → (limits : List Limit) → AreLimits app limits → RespondsInTime app limits img

-- in every trace of the image whose requests keep these limits once `init` ends, each of them is served within the
-- response time of its priority, from its own moment or, where it was made during `init`, from the end of `init` on
abbrev pub RespondsInTimeOnceInitEnds : App → List Limit → Image → Type 0
RespondsInTimeOnceInitEnds app limits img = (events : List Event) → CountsFit app img events
    → KeptOnceInitEnds limits (labels img (reset img) events)
    → RespondsOnceInitEnds app limits (labels img (reset img) events)

-- and so does every image of such an application
abbrev pub ImagesRespondOnceInitEnds : Type 0
ImagesRespondOnceInitEnds = (app : App) (img : Image) → IsAccepted app → IsImageOf app img
    → has_response_times app ≡ true
    → (limits : List Limit) → AreLimits app limits → RespondsInTimeOnceInitEnds app limits img
