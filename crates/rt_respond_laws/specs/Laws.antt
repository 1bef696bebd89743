-- What holds of the runs of Baker's machine whose requests keep limits, of applications whose bodies may pend
-- interrupts of hardware tasks and spawn messages.
use Rattle.std.specs.Prelude.{◌≡◌, true, List}
use Rattle.rt_trace.specs.Label.{Label}
use Rattle.rt_app.specs.Tree.{App}
use Rattle.rt_app.specs.Accepted.{IsAccepted}
use Rattle.rt_laws.specs.State.{first}
use Rattle.rt_laws.specs.Run.{RunsOn}
use Rattle.rt_laws.specs.Unspent.{NoneIsSpent}
use Rattle.rt_rta.specs.Kept.{Kept}
use Rattle.rt_respond.specs.Form.{is_of_form}
use Rattle.rt_respond.specs.Limits.{Limits, AreLimits}
use Rattle.rt_respond_laws.specs.Moments.{QuietMoments}
use Rattle.rt_respond_laws.specs.Served.{RespondsEach}
use Rattle.rt_respond_laws.specs.Started.{RunsEach}
use Rattle.rt_respond_laws.specs.Coming.{CausesWithin}
use Rattle.rt_respond_laws.specs.Rooms.{KeepsToRoom}

-- Where requests from outside keep the limits, and no job's cost is spent before it ends, nothing of a handler is left
-- within its response time from any moment on.
abbrev pub RunsComeToNothing : Type 0
RunsComeToNothing = (app : App) → IsAccepted app → is_of_form app ≡ true → (limits : Limits) → AreLimits app limits
    → (labels : List Label) → RunsOn app (first app) labels → Kept limits.every labels → NoneIsSpent app labels
    → QuietMoments app limits.every labels

-- So each request, from outside or of a body, is served within the response time of its own interrupt.
abbrev pub RunsRespondEach : Type 0
RunsRespondEach = (app : App) → IsAccepted app → is_of_form app ≡ true → (limits : Limits) → AreLimits app limits
    → (labels : List Label) → RunsOn app (first app) labels → Kept limits.every labels → NoneIsSpent app labels
    → RespondsEach app limits labels

-- Each message is started and done within the response time of its level's dispatcher.
abbrev pub RunsRunEach : Type 0
RunsRunEach = (app : App) → IsAccepted app → is_of_form app ≡ true → (limits : Limits) → AreLimits app limits
    → (labels : List Label) → RunsOn app (first app) labels → Kept limits.every labels → NoneIsSpent app labels
    → RunsEach app limits labels

-- And all that comes of a request is done within what the report says of the two.
abbrev pub RunsCauseWithin : Type 0
RunsCauseWithin = (app : App) → IsAccepted app → is_of_form app ≡ true → (limits : Limits) → AreLimits app limits
    → (labels : List Label) → RunsOn app (first app) labels → Kept limits.every labels → NoneIsSpent app labels
    → CausesWithin app limits labels

-- No more places of a task are out than the report says, and where it has as many, no spawn finds it full.
abbrev pub RunsHaveRoom : Type 0
RunsHaveRoom = (app : App) → IsAccepted app → is_of_form app ≡ true → (limits : Limits) → AreLimits app limits
    → (labels : List Label) → RunsOn app (first app) labels → Kept limits.every labels → NoneIsSpent app labels
    → KeepsToRoom app limits labels
