-- Ways on which loops that count turn as often as they do, or may turn more often.
use Rattle.std.proofs.Common.{◌≤◌, ◌-◌, ◌==◌, ℕ, Bool, true, false, if◌then◌else◌, arith}
use Rattle.rt_code.specs.Image.{Image}
use Rattle.rt_points.specs.Point.{Point}
use Rattle.rt_bounds.specs.Counting.{CountingLoop}
use Rattle.rt_bounds.specs.CountedWays.{CountedWay, Left, left_after}
use Rattle.rt_bounds.specs.CountedWays as counted
use Rattle.rt_bounds.specs.Laws.{CountedWaysAreWays}
use Rattle.rt_bounds.specs.Ways.{Way}
use Rattle.rt_bounds.specs.Ways as ways

is_way : (img : Image) (depth : ℕ) (left : Left) (p : Point) (n : ℕ) → CountedWay img depth left p n → Way img depth p n
is_way img depth left p n (counted.Stops l same) = ways.Stops same
is_way img depth left p n (counted.Goes_on l same q m goes may way) =
    ways.Goes_on same q m goes (is_way img depth (left_after l same q) q m way)

-- more turns are left afterwards where more were before
after_more : (left other : Left) (p q : Point) → ((c : CountingLoop) → left c ≤ other c) → (c : CountingLoop)
    → left_after left p q c ≤ left_after other p q c
after_more left other p q more c = by (p.address == c.place.jump) (q.address == c.place.stay)
  where
    by : (a b : Bool) → (if a then (if b then left c - 1 else c.turns) else left c)
        ≤ (if a then (if b then other c - 1 else c.turns) else other c)
    by true true = let h = more c in omega (arith, h)
    by true false = omega arith
    by false b = more c

with_more : (img : Image) (depth : ℕ) (left other : Left) (p : Point) (n : ℕ) → ((c : CountingLoop) → left c ≤ other c)
    → CountedWay img depth left p n → CountedWay img depth other p n
with_more img depth left other p n more (counted.Stops l same) = counted.Stops other same
with_more img depth left other p n more (counted.Goes_on l same q m goes may way) =
    counted.Goes_on other same q m goes
    (λ c is at to. let some = may c is at to in let h = more c in omega (arith, some, h))
    (with_more img depth (left_after l same q) (left_after other same q) q m (after_more l other same q more) way)

pub counted_ways_are_ways : CountedWaysAreWays
counted_ways_are_ways = record { way = is_way; more = with_more }
