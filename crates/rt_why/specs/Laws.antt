-- What holds of the definitions of this crate themselves.
use Rattle.rt_code.specs.Image.{Image}
use Rattle.rt_points.specs.Checked.{IsChecked, Keeps}
use Rattle.rt_why.specs.Witness.{rule_of, IsWitness}
use Rattle.rt_why.specs.declared.witness.Witness.{Witness}

-- where there is a witness, its rule is not kept, and the image is not checked
pub record WitnessesRefute : Type 0 where
  pub rule : (img : Image) (w : Witness) → IsWitness img w → ¬ Keeps img (rule_of w)
  pub checked : (img : Image) (w : Witness) → IsWitness img w → ¬ IsChecked img
