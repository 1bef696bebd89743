-- The file of an image for the chip of a board, an executable or an object, and why there is none. Of several causes
-- the first is told, at the line of the board that the image does not fit.
use Rattle.std.specs.Prelude.{◌≡◌, ◌⊎◌, ℕ, List, codes}
use Rattle.std.specs.Str.Lines.{lines}
use Rattle.rt_ids.specs.declared.status.Status.{Status}
use Rattle.rt_ids.specs.declared.status.Status.TheVariants as status
use Rattle.rt_app.specs.Tree.{App}
use Rattle.rt_code.specs.Image.{Image}
use Rattle.rt_native.specs.File.{file}
use Rattle.rt_native.specs.Fitting.{Fits, IsUnfit}
use Rattle.rt_native.specs.declared.target.Unfit.TheVariants as unfit
use Rattle.rt_target.specs.Setup.{Setup}
use Rattle.rt_target.specs.Text.{refusal_text, line_number}
use Rattle.rt_target.specs.declared.refusal.Cause.{Cause}
use Rattle.rt_target.specs.declared.refusal.Cause.TheVariants as cause
use Rattle.rt_topx.specs.Target.{target_of}

-- the bytes are the file of an image that fits
abbrev pub IsFile : App → Image → Setup → List ℕ → Type 0
IsFile app image setup bytes = Fits image (target_of app setup) × (bytes ≡ file image (target_of app setup))

-- why there is no file; each cause says also that those before it do not hold
abbrev pub Misfits : App → Image → Setup → Cause → Type 0
Misfits app image setup cause.TooFewLines = IsUnfit image (target_of app setup) unfit.Line
Misfits app image setup cause.SmallRam = IsUnfit image (target_of app setup) unfit.Ram
Misfits app image setup cause.SmallFlash = IsUnfit image (target_of app setup) unfit.Flash
Misfits app image setup cause.FarBranch = IsUnfit image (target_of app setup) unfit.Reach
Misfits app image setup cause.LongFile = IsUnfit image (target_of app setup) unfit.File
Misfits app image setup why = ⊥

-- the first word of the line of the board that such a cause is told of
abbrev pub first_word : Cause → List ℕ
first_word cause.TooFewLines = codes "bits"
first_word cause.SmallRam = codes "ram"
first_word why = codes "flash"

-- what is written where the text of a board tells this, and the status: the file, or why there is none, at the
-- line of the text that begins with the word
abbrev pub IsMade : App → Image → List ℕ → Setup → Status → List ℕ → Type 0
IsMade app image text setup ended bytes =
    ((ended ≡ status.Done) × IsFile app image setup bytes)
    ⊎ ((ended ≡ status.Text) × (why : Cause) × Misfits app image setup why
    × (bytes ≡ refusal_text (line_number (first_word why) (lines text)) why))
