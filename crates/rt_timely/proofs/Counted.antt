-- How often the loops that count may still turn, where a job runs: its slots keep to that.
use Rattle.std.proofs.Common.{◌≡◌, ◌≢◌, inr, ℕ, ◌-◌, ◌≤◌, ◌==◌, Bool, true, false, if◌then◌else◌, List, refl}
use Rattle.std.proofs.Common.{sym, subst, ⊎_elim, arith}
use Rattle.rt_code.specs.Image.{Image}
use Rattle.rt_points.specs.Leading.{IsPoint, Leads, LeadsTo}
use Rattle.rt_points.specs.Point.{Point}
use Rattle.rt_points.specs.declared.point.Owner.{Owner}
use Rattle.rt_bounds.specs.CountedWays.{Left, MayGo, all_left, left_after}
use Rattle.rt_bounds.specs.Counting.{IsCounting}
use Rattle.rt_bounds.specs.Holding.{BeginsAt}
use Rattle.rt_bounds.specs.declared.counting.CountingLoop.{CountingLoop}
use Rattle.rt_timely.proofs.Acting.{Acts}
use Rattle.rt_timely.proofs.Constants.{AreHeld, held_after, held_behind, held_first, held_on}
use Rattle.rt_timely.proofs.Turning.{IsTurned, inside_or_not, steps_on}

-- no more turns are left of each loop than it has
abbrev pub AreFew : Left → Type 0
AreFew left = (c : CountingLoop) → left c ≤ c.turns

-- where none has turned yet it has all its turns
pub all_few : AreFew all_left
all_few c = omega arith

-- and no more after a step
few_on : (left : Left) (p q : Point) → AreFew left → AreFew (left_after left p q)
few_on left p q few c = by (p.address == c.place.jump) (q.address == c.place.stay)
  where
    by : (a b : Bool) → (if a then (if b then left c - 1 else c.turns) else left c) ≤ c.turns
    by true true = let h = few c in omega (arith, h)
    by true false = omega arith
    by false b = few c

module _ (img : Image) (owner : Owner) where
  -- an owner is at a point with these slots, and so often its loops may still turn
  pub record AreCounted (p : Point) (slots : List ℕ) (left : Left) : Type 0 where
    pub held : AreHeld img owner p.address slots
    pub turned : (c : CountingLoop) (is : IsCounting img owner c) → IsTurned img owner c is p.address slots (left c)
    pub few : AreFew left

  -- where an owner begins it is in no loop
  pub counted_first : (p : Point) (slots : List ℕ) → BeginsAt img owner p.address → AreCounted p slots all_left
  counted_first p slots begins = record {
    held = held_first img owner p.address slots begins;
    turned = λ c is. inr (is.loop.begins p.address begins, refl);
    few = all_few;
  }

  -- nor where another leads to it
  pub counted_behind : (p q : Point) (slots : List ℕ) → IsPoint img p → LeadsTo img p q → q.owner ≡ owner
      → p.owner ≢ owner → AreCounted q slots all_left
  counted_behind p q slots point leads mine other = record {
    held = held_behind img owner p q slots point leads mine other;
    turned = λ c is.
        ⊎_elim
        (λ inside.
        absurd (other (is.loop.entered p q point leads
        (record { point = Leads p q point leads; mine = mine; inside = inside })).0))
        (λ outside. inr (outside, refl))
        (inside_or_not c.place q.address);
    few = all_few;
  }

module _ (img : Image) (p q : Point) (point : IsPoint img p) (goes : LeadsTo img p q) (mine : q.owner ≡ p.owner)
    (old new : List ℕ) (acts : Acts goes.line.0 p.address q.address old new) (left : Left)
    (counted : AreCounted img p.owner p old left) where
  -- no loop goes on where it has no turn left
  pub may_go : MayGo img left p q
  may_go c is =
      (steps_on img p.owner c is p q point refl goes mine old new acts counted.held (left c) (counted.turned c is)).may

  -- and behind the step it is so again
  pub counted_on : AreCounted img q.owner q new (left_after left p q)
  counted_on =
      subst (λ (o : Owner). AreCounted img o q new (left_after left p q)) (sym mine) (record {
        held = held_on img p.owner p q goes old new acts point mine
            (held_after img p.owner p q goes old new acts counted.held);
        turned = λ c is.
            (steps_on img p.owner c is p q point refl goes mine old new acts counted.held (left c)
            (counted.turned c is)).turned;
        few = few_on left p q counted.few;
      })
