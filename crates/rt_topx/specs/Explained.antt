-- What `why` writes of a text: that its image is safe, or the least rule that its image breaks, and points at which it
-- does. It is this project's own; a listing is judged whatever made it, without an application.
use Rattle.std.specs.Prelude.{ℕ, List}
use Rattle.rt_ids.specs.declared.status.Status.{Status}
use Rattle.rt_ids.specs.declared.status.Status.TheVariants as status
use Rattle.rt_code.specs.Image.{Image}
use Rattle.rt_load.specs.Reading.{IsListingText}
use Rattle.rt_points.specs.Checked.{IsChecked, IsLeastBroken, rule_number}
use Rattle.rt_safe.specs.Safe.{IsSafe}
use Rattle.rt_why.specs.Text.{why_text}
use Rattle.rt_why.specs.Witness.{IsWitness, rule_of}
use Rattle.rt_why.specs.declared.witness.Witness.{Witness}
use Rattle.rt_why.specs.declared.witness.Why.{Why}
use Rattle.rt_why.specs.declared.witness.Why.TheVariants as answer

-- the status of an answer
abbrev pub status_of : Why → Status
status_of answer.Yes = status.Done
status_of (answer.No w) = status.No

-- the status and the lines for an image
pub data Explains (image : Image) : Status → List ℕ → Type 0 where
  -- it keeps each rule, and is safe for every list of events
  is_safe : IsChecked image → IsSafe image → Explains image status.Done (why_text image answer.Yes)
  -- the least of the rules that it breaks, and a witness that it does
  breaks : (w : Witness) → IsLeastBroken image (rule_number (rule_of w)) → IsWitness image w
      → Explains image status.No (why_text image (answer.No w))

-- `why`: the status and the lines for the listing of an image
abbrev pub IsExplained : List ℕ → Status → List ℕ → Type 0
IsExplained text ended lines = (image : Image) × IsListingText text image × Explains image ended lines
