-- What is built is good; and where it does not fit, what a board is told.
use Rattle.rt_app.specs.Accepted.{IsAccepted}
use Rattle.rt_app.specs.Tree.{App}
use Rattle.rt_build.specs.Built.{IsBuilt}
use Rattle.rt_build.specs.Image.{IsImageOf}
use Rattle.rt_code.specs.Image.{Image}
use Rattle.rt_code.specs.Lines.{HasLines}
use Rattle.rt_code.specs.Runnable.{IsRunnable}
use Rattle.rt_native.specs.Fitting.{IsUnfit}
use Rattle.rt_native.specs.declared.target.Unfit.{Unfit}
use Rattle.rt_native.specs.declared.target.Unfit.TheVariants as unfit
use Rattle.rt_sim.proofs.Good.{images_are_good}
use Rattle.rt_target.specs.Setup.{Setup}
use Rattle.rt_target.specs.declared.refusal.Cause.{Cause}
use Rattle.rt_top.specs.Outputs.{IsGoodOf}
use Rattle.rt_topx.specs.Executable.{Misfits}
use Rattle.rt_topx.specs.Inside.Making.{Tells}
use Rattle.rt_topx.specs.Target.{target_of}

-- an image that was built of an application is good
pub good_of : (app : App) (image : Image) → IsAccepted app → IsImageOf app image → IsBuilt app image
    → IsRunnable image → HasLines image → IsGoodOf app image
good_of app image accepted is built runnable lines = record {
  accepted = accepted;
  of_application = is;
  built = built;
  runnable = runnable;
  listable = lines.listable;
  good = images_are_good app image accepted is;
}

-- why an image does not fit, as it is told
pub misfits_as : (app : App) (image : Image) (setup : Setup) (u : Unfit)
    → IsUnfit image (target_of app setup) u → (why : Cause) → Tells u why → Misfits app image setup why
misfits_as app image setup unfit.Line is why told = rw told is
misfits_as app image setup unfit.Ram is why told = rw told is
misfits_as app image setup unfit.Flash is why told = rw told is
misfits_as app image setup unfit.Reach is why told = rw told is
misfits_as app image setup unfit.File is why told = rw told is
misfits_as app image setup unfit.NoMemory is why told = absurd told
