-- What `verify` writes of a text: that it is no listing, that its image is safe, or the rule that its image breaks. It
-- is this project's own; a listing is judged whatever made it, without an application.
use Rattle.std.specs.Prelude.{◌≡◌, ℕ, List, ◌++◌, codes, decimal}
use Rattle.rt_ids.specs.declared.status.Status.{Status}
use Rattle.rt_ids.specs.declared.status.Status.TheVariants as status
use Rattle.rt_code.specs.Image.{Image}
use Rattle.rt_load.specs.Reading.{IsListingText, IsListingRefused}
use Rattle.rt_load.specs.declared.refusal.LoadRefused.{LoadRefused}
use Rattle.rt_load.specs.declared.refusal.LoadRefused.TheVariants as in_image
use Rattle.rt_points.specs.Checked.{IsChecked, IsLeastBroken}
use Rattle.rt_safe.specs.Safe.{IsSafe}

-- the line for the refusal of a text that is no listing; want of memory refuses nothing
abbrev pub SaysImage : LoadRefused → List ℕ → Type 0
SaysImage in_image.TooLong line = line ≡ codes "image:" ++ decimal 1 ++ codes " 1 too long\n"
SaysImage (in_image.BadLine n) line = line ≡ codes "image:" ++ decimal n ++ codes " 2 bad line\n"
SaysImage (in_image.UnknownName n) line = line ≡ codes "image:" ++ decimal n ++ codes " 3 unknown name\n"
SaysImage in_image.NoMemory line = ⊥

-- the status and the line for an image
pub data TellsImage (image : Image) : Status → List ℕ → Type 0 where
  -- it keeps each rule, and is safe for every list of events
  is_safe : IsChecked image → IsSafe image → TellsImage image status.Done (codes "yes\n")
  -- the least of the rules that it breaks
  breaks : (rule : ℕ) → IsLeastBroken image rule → TellsImage image status.No
      (codes "no " ++ decimal rule ++ codes "\n")

-- the line refuses a text that is no listing
abbrev pub RefusesListing : List ℕ → List ℕ → Type 0
RefusesListing text line = (refusal : LoadRefused) × IsListingRefused text refusal × SaysImage refusal line

-- `verify`: the status and the line for the listing of an image
abbrev pub IsVerified : List ℕ → Status → List ℕ → Type 0
IsVerified text ended line = (image : Image) × IsListingText text image × TellsImage image ended line
