-- An image is judged in one way.
use Rattle.std.proofs.Common.{ℕ, ◌<◌, arith}
use Rattle.rt_code.specs.Image.{Image}
use Rattle.rt_points.specs.Checked.{IsLeastBroken}
use Rattle.rt_points.specs.Laws.{IsJudgedOneWay}

-- of two least broken rules neither has the lower number
not_lower : (img : Image) (m n : ℕ) → IsLeastBroken img m → IsLeastBroken img n → m < n → ⊥
not_lower img m n a b lt = a.broken (b.lower a.rule (let e = a.numbered in omega (arith, e, lt)))

pub judged_one_way : IsJudgedOneWay
judged_one_way = record {
  not_both = λ img number checked broken. broken.broken (checked broken.rule);
  one_least = λ img m n a b.
      let below = not_lower img m n a b in
      let above = not_lower img n m b a in
      grind (arith, below, above);
}
