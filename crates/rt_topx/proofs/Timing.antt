-- What refuses limits for an image.
use Rattle.std.proofs.Common.{ℕ, List}
use Rattle.rt_code.specs.Image.{Image}
use Rattle.rt_image_times.specs.Text.{AreImageLimitsRefused}
use Rattle.rt_load.specs.Reading.{IsListingText}
use Rattle.rt_rta.specs.declared.refusal.LimitsRefused.{LimitsRefused}
use Rattle.rt_top.specs.SecondRefusal.{SaysLimits}
use Rattle.rt_topx.specs.Refusal.{RefusesImageLimits}

-- limits are refused over the image of a listing
pub refused_of_image : {text more line : List ℕ} (image : Image) → IsListingText text image → (r : LimitsRefused)
    → AreImageLimitsRefused image more r → SaysLimits r line → RefusesImageLimits text more line
refused_of_image image is r refused says =
    record { image = image; of_text = is; refusal = r; refused = refused; says = says }
