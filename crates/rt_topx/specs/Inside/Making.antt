-- What the command `native` makes of an application and of what a board's text tells.
use Rattle.std.specs.Prelude.{◌≡◌, ℕ, List}
use Rattle.rt_ids.specs.declared.status.Status.{Status}
use Rattle.rt_ids.specs.declared.status.Status.TheVariants as status
use Rattle.rt_app.specs.Tree.{App}
use Rattle.rt_code.specs.Image.{Image}
use Rattle.rt_native.specs.declared.target.Unfit.{Unfit}
use Rattle.rt_native.specs.declared.target.Unfit.TheVariants as unfit
use Rattle.rt_target.specs.Setup.{Setup}
use Rattle.rt_target.specs.declared.refusal.Cause.{Cause}
use Rattle.rt_target.specs.declared.refusal.Cause.TheVariants as cause
use Rattle.rt_top.specs.Outputs.{IsGoodOf}
use Rattle.rt_topx.specs.Executable as program
use Rattle.rt_topx.specs.Outputs.{RunsOnChip}
use Rattle.rt_topx.specs.Target.{target_of}

-- the bytes are the file of a good image, which does what it does
abbrev pub IsProgram : App → Setup → List ℕ → Type 0
IsProgram app setup bytes =
    (image : Image) × IsGoodOf app image × program.IsFile app image setup bytes
    × RunsOnChip app image (target_of app setup) bytes

-- a good image does not fit for this cause
abbrev pub IsMisfit : App → Setup → Cause → Type 0
IsMisfit app setup why = (image : Image) × IsGoodOf app image × program.Misfits app image setup why

-- what is written of a good image for the text of a board that tells this, and the status
abbrev pub IsMade : App → List ℕ → Setup → Status → List ℕ → Type 0
IsMade app text setup ended bytes =
    (image : Image) × IsGoodOf app image × program.IsMade app image text setup ended bytes
    × (ended ≡ status.Done → RunsOnChip app image (target_of app setup) bytes)

-- how a board is told why an image does not fit; want of memory is none of its causes
abbrev pub Tells : Unfit → Cause → Type 0
Tells unfit.Line c = c ≡ cause.TooFewLines
Tells unfit.Ram c = c ≡ cause.SmallRam
Tells unfit.Flash c = c ≡ cause.SmallFlash
Tells unfit.Reach c = c ≡ cause.FarBranch
Tells unfit.File c = c ≡ cause.LongFile
Tells unfit.NoMemory c = ⊥
