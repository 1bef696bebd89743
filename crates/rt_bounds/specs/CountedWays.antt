-- Ways through code on which each loop that counts turns no more often than it does: the flow facts of loop bounds
-- (Li and Malik, Performance Analysis of Embedded Software Using Implicit Path Enumeration, 1995). A way is here one of
-- situations: a point, and how often the jump of each loop may still go on into its loop. All else is as the ways of a
-- control flow graph are: other jumps go wherever they lead. The code folds a loop into one step of many.
use Rattle.std.specs.Prelude.{◌≡◌, ℕ, suc, ◌-◌, ◌<◌, ◌==◌, if◌then◌else◌}
use Rattle.rt_code.specs.Image.{Image}
use Rattle.rt_points.specs.Point.{Point}
use Rattle.rt_bounds.specs.Counting.{CountingLoop, IsCounting}
use Rattle.rt_bounds.specs.Ways.{Goes}

-- how often the jump of each loop may still go on
abbrev pub Left : Type 0
Left = CountingLoop → ℕ

-- as often as the loops turn: so it is outside them
abbrev pub all_left : Left
all_left c = c.turns

-- after a step from a point to another: one fewer where the loop's jump goes on, and all again where it goes out
abbrev pub left_after : Left → Point → Point → Left
left_after left p q c =
    if p.address == c.place.jump then (if q.address == c.place.stay then left c - 1 else c.turns) else left c

-- no loop that counts goes on where it has no turn left
abbrev pub MayGo : Image → Left → Point → Point → Type 0
MayGo img left p q =
    (c : CountingLoop) → IsCounting img p.owner c → p.address ≡ c.place.jump → q.address ≡ c.place.stay → 0 < left c

-- so many steps can be taken one after another from a point on, where all points but the first have at least so many
-- sections open, and loops may still turn so often
pub data CountedWay (img : Image) (depth : ℕ) : Left → Point → ℕ → Type 0 where
  -- the step at the point alone
  Stops : (left : Left) → (p : Point) → CountedWay img depth left p 1
  -- and a way from a point that it leads to
  Goes_on : (left : Left) → (p : Point) → (q : Point) → (n : ℕ) → Goes img depth p q → MayGo img left p q
      → CountedWay img depth (left_after left p q) q n → CountedWay img depth left p (suc n)

-- so many steps from a point on, where no loop has turned yet
abbrev pub FreshWay : Image → ℕ → Point → ℕ → Type 0
FreshWay img depth p n = CountedWay img depth all_left p n
