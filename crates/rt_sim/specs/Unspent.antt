-- The code of an image comes to its ends within its costs: in no trace of an image is a job's cost spent before the job
-- has ended. So what holds of runs of Baker's machine in which none is spent holds of images.
use Rattle.std.specs.Prelude.{List}
use Rattle.rt_ids.specs.Event.{Event}
use Rattle.rt_app.specs.Tree.{App}
use Rattle.rt_app.specs.Accepted.{IsAccepted}
use Rattle.rt_build.specs.Image.{IsImageOf}
use Rattle.rt_code.specs.Image.{Image}
use Rattle.rt_core.specs.Core.{reset}
use Rattle.rt_core.specs.Trace.{labels}
use Rattle.rt_laws.specs.Unspent.{NoneIsSpent}
use Rattle.rt_sim.specs.Good.{AreDeclared, CountsFit}

-- in no trace of an image of an accepted application is a job's cost spent before the job has ended
abbrev pub ImagesLeaveSteps : Type 0
ImagesLeaveSteps = (app : App) (img : Image) → IsAccepted app → IsImageOf app img → (events : List Event)
    → CountsFit app img events → AreDeclared app events → NoneIsSpent app (labels img (reset img) events)
