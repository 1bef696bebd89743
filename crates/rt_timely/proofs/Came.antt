-- From one point on so many steps came to another, and loops that count turned no more often than they do: a way so
-- far, and what is left of it.
use Rattle.std.proofs.Common.{◌≡◌, ℕ, suc, ◌+◌, refl, subst, ◌∙◌, arith}
use Rattle.rt_code.specs.Image.{Image}
use Rattle.rt_points.specs.Point.{Point}
use Rattle.rt_bounds.specs.CountedWays.{CountedWay, FreshWay, Left, MayGo, all_left, left_after}
use Rattle.rt_bounds.specs.CountedWays as counted
use Rattle.rt_bounds.specs.Ways.{Goes}
use Rattle.rt_bounds.proofs.Fewer.{counted_ways_are_ways}
use Rattle.rt_timely.proofs.Counted.{AreFew}

-- so many steps came from the first point to the last, where all points behind the first have so many sections open;
-- and so often each loop may still turn
pub data Came (img : Image) (depth : ℕ) (from : Left) (start : Point) : ℕ → Left → Point → Type 0 where
  Starts : Came img depth from start 0 from start
  Came_on : (n : ℕ) → (left : Left) → (p : Point) → (q : Point) → Came img depth from start n left p
      → Goes img depth p q → MayGo img left p q → Came img depth from start (suc n) (left_after left p q) q

module _ (img : Image) (depth : ℕ) (from : Left) (start : Point) where
  -- and a way goes on from there
  pub came_then : (n m : ℕ) (left : Left) (q : Point) → Came img depth from start n left q
      → CountedWay img depth left q m → CountedWay img depth from start (n + m)
  came_then n m left q Starts way =
      let equal : m ≡ 0 + m = omega arith in subst (CountedWay img depth from start) equal way
  came_then n m left q (Came_on k before p same came goes may) way =
      let whole = came_then k (suc m) before p came (counted.Goes_on before p same m goes may way) in
      let equal : k + suc m ≡ suc k + m = omega arith in subst (CountedWay img depth from start) equal whole

  -- with the step at the last point it is a way, on which no loop has turned yet
  pub came_way : (n : ℕ) (left : Left) (q : Point) → AreFew from → Came img depth from start n left q
      → FreshWay img depth start (suc n)
  came_way n left q few came =
      let whole = came_then n 1 left q came (counted.Stops left q) in
      let equal : n + 1 ≡ suc n = omega arith in
      counted_ways_are_ways.more img depth from all_left start (suc n) few
      (subst (CountedWay img depth from start) equal whole)

  -- all of it is one owner's
  pub came_owner : (n : ℕ) (left : Left) (q : Point) → Came img depth from start n left q → q.owner ≡ start.owner
  came_owner n left q Starts = refl
  came_owner n left q (Came_on k before p same came goes may) = goes.owner ∙ came_owner k before p came
