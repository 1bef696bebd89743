-- What holds of the definitions of this crate themselves.
use Rattle.std.specs.Prelude.{◌≡◌, ℕ}
use Rattle.rt_code.specs.Image.{Image}
use Rattle.rt_points.specs.Checked.{IsChecked, IsLeastBroken}

-- no checked image has a least broken rule, and no image has two
pub record IsJudgedOneWay : Type 0 where
  pub not_both : (img : Image) (number : ℕ) → IsChecked img → ¬ IsLeastBroken img number
  pub one_least : (img : Image) (m n : ℕ) → IsLeastBroken img m → IsLeastBroken img n → m ≡ n
