-- What is said of an image by its rules: that it keeps them, and is safe for every list of events, or the least of them
-- that it breaks.
use Rattle.rt_code.specs.Image.{Image}
use Rattle.rt_judge.specs.declared.verdict.Verified.{Verified}
use Rattle.rt_judge.specs.declared.verdict.Verified.TheVariants as verified
use Rattle.rt_points.specs.Checked.{IsChecked, IsLeastBroken}
use Rattle.rt_safe.specs.Safe.{IsSafe}

-- the verdict on an image is right
abbrev pub IsVerdict : Image → Verified → Type 0
IsVerdict img verified.Yes = IsChecked img × IsSafe img
IsVerdict img (verified.No rule) = IsLeastBroken img rule
