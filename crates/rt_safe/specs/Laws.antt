-- What the seven rules are worth: an image that keeps them is safe, and a core runs it.
use Rattle.std.specs.Prelude.{◌^◌, ◌<◌, length}
use Rattle.rt_code.specs.Image.{Image}
use Rattle.rt_code.specs.Runnable.{IsRunnable}
use Rattle.rt_points.specs.Checked.{IsChecked}
use Rattle.rt_points.specs.Limits.{IsWithinLimits}
use Rattle.rt_safe.specs.Safe.{IsSafe}

-- an image that keeps all seven rules is safe
abbrev pub CheckedImagesAreSafe : Type 0
CheckedImagesAreSafe = (img : Image) → IsChecked img → IsSafe img

-- a core runs an image that keeps all seven rules, where it is within the limits and has no more cells than a core
-- takes
abbrev pub CheckedImagesRun : Type 0
CheckedImagesRun = (img : Image) → IsWithinLimits img → length img.cells < 2 ^ 31 → IsChecked img → IsRunnable img
