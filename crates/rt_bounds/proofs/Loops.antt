-- Where a loop is come to, ways have any number of steps.
use Rattle.std.proofs.Common.{◌≤◌, ℕ, zero, suc, arith}
use Rattle.rt_code.specs.Image.{Image}
use Rattle.rt_points.specs.Point.{Point}
use Rattle.rt_bounds.specs.Bounds.{IsEndless, IsLongestFrom}
use Rattle.rt_bounds.specs.Laws.{LoopsHaveNoBound}
use Rattle.rt_bounds.specs.declared.longest.TheConstants.{MOST_STEPS}
use Rattle.rt_bounds.specs.Ways.{Goes, Way, Stops, Goes_on, Comes, Here, Further, ComesToLoop}

module _ (img : Image) (depth : ℕ) where
  -- a way of at least so many steps
  abbrev pub WayOf : Point → ℕ → Type 0
  WayOf p n = (m : ℕ) × (n ≤ m) × Way img depth p m

  pub comes_then : (p q r : Point) → Comes img depth p q → Goes img depth q r → Comes img depth p r
  comes_then p q r (Here same) goes = Further same r r goes (Here r)
  comes_then p q r (Further s t u first rest) goes = Further s t r first (comes_then t u r rest goes)

  way_from : (p q : Point) (n : ℕ) → Comes img depth p q → WayOf q n → WayOf p n
  way_from p q n (Here same) way = way
  way_from p q n (Further s t u goes rest) way =
      let on = way_from t u n rest way in
      (suc on.0, omega (arith, on.1), Goes_on s t on.0 goes on.2)

  -- round the loop once more
  way_round : (turn next : Point) → Goes img depth turn next → Comes img depth next turn → (n : ℕ) → WayOf turn n
  way_round turn next goes again zero = (1, omega arith, Stops turn)
  way_round turn next goes again (suc n) =
      let on = way_from next turn n again (way_round turn next goes again n) in
      (suc on.0, omega (arith, on.1), Goes_on turn next on.0 goes on.2)

  way_any : (p : Point) (address : ℕ) → ComesToLoop img depth p address → (n : ℕ) → WayOf p n
  way_any p address loop n = way_from p loop.turn n loop.comes (way_round loop.turn loop.next loop.goes loop.again n)

  no_longest : (p : Point) (address steps : ℕ) → steps ≤ MOST_STEPS → IsEndless img depth p address
      → IsLongestFrom img depth p steps → ⊥
  no_longest p address steps few endless longest =
      let most = longest.most (suc MOST_STEPS) endless.long in
      absurd (omega (arith, most, few))

pub loops_have_no_bound : LoopsHaveNoBound
loops_have_no_bound = record { any = way_any; none = no_longest }
