-- The bound of sections that are entered at some points, with one point more.
use Rattle.std.proofs.Common.{◌≡◌, ◌⊎◌, ◌≤◌, ◌<◌, ℕ, max, Option, Some, None, sym, subst, ⊎_elim, arith}
use Rattle.std.proofs.lemmas.Bool.{cases_lt}
use Rattle.rt_code.specs.Image.{Image}
use Rattle.rt_points.specs.Point.{Point}
use Rattle.rt_bounds.specs.Bounds.{IsBoundFrom, IsSectionBound, IsLongestFrom}
use Rattle.rt_bounds.specs.Bounds.{depth_inside}
use Rattle.rt_bounds.specs.Inside.Gathered.{IsSoFar, worst}
use Rattle.rt_bounds.specs.CountedWays.{FreshWay}
use Rattle.rt_bounds.specs.declared.longest.Longest.{Longest}
use Rattle.rt_bounds.specs.declared.longest.Longest.TheVariants.{Steps, Loop}

-- a bound of sections at the same points
pub same_bound : (img : Image) (P Q : Point → Type 0) → ((p : Point) → P p → Q p) → ((p : Point) → Q p → P p)
    → (longest : Longest) → IsSectionBound img P longest → IsSectionBound img Q longest
same_bound img P Q to from (Loop a) bound = record {
  point = bound.point;
  entered = to bound.point bound.entered;
  endless = bound.endless;
}
same_bound img P Q to from (Steps n) bound = record {
  point = bound.point;
  entered = to bound.point bound.entered;
  way = bound.way;
  most = λ p m is way. bound.most p m (from p is) way;
}

pub same_so_far : (img : Image) (P Q Entered : Point → Type 0) → ((p : Point) → Entered p → P p → Q p)
    → ((p : Point) → Entered p → Q p → P p) → (o : Option Longest) → IsSoFar img P Entered o → IsSoFar img Q Entered o
same_so_far img P Q Entered to from None none = λ p is entered. none p (from p entered is) entered
same_so_far img P Q Entered to from (Some longest) some =
    same_bound img (λ p. P p × Entered p) (λ p. Q p × Entered p) (λ p both. (to p both.1 both.0, both.1))
    (λ p both. (from p both.1 both.0, both.1)) longest some

module _ (img : Image) (Seen New Entered : Point → Type 0) (c : Point) (keeps : (p : Point) → Seen p → New p)
    (splits : (p : Point) → New p → Entered p → Seen p ⊎ (c ≡ p)) where
  -- the point is none of those
  pub past : (o : Option Longest) → ¬ Entered c → IsSoFar img Seen Entered o → IsSoFar img New Entered o
  past None other none = λ p new entered. ⊎_elim
      (λ seen. none p seen entered)
      (λ same. other (subst Entered (sym same) entered))
      (splits p new entered)
  past (Some (Loop a)) other some = record {
    point = some.point;
    entered = (keeps some.point some.entered.0, some.entered.1);
    endless = some.endless;
  }
  past (Some (Steps n)) other some = record {
    point = some.point;
    entered = (keeps some.point some.entered.0, some.entered.1);
    way = some.way;
    most = λ p m both way. ⊎_elim
        (λ seen. some.most p m (seen, both.1) way)
        (λ same. absurd (other (subst Entered (sym same) both.1)))
        (splits p both.0 both.1);
  }

  module _ (now : New c) (entered : Entered c) where
    abbrev Both : Point → Type 0
    Both p = New p × Entered p

    -- a way from the point, or one from before
    each : (m n : ℕ) → IsLongestFrom img (depth_inside c) c n
        → ((p : Point) (k : ℕ) → Seen p × Entered p → FreshWay img (depth_inside p) p k → k ≤ m)
        → (p : Point) (k : ℕ) → Both p → FreshWay img (depth_inside p) p k → k ≤ max m n
    each m n bound before p k both way = ⊎_elim
        (λ seen. let h = before p k (seen, both.1) way in omega (arith, h))
        (λ same. let h = bound.most k (subst (λ (q : Point). FreshWay img (depth_inside q) q k) (sym same) way) in
        omega (arith, h))
        (splits p both.0 both.1)

    pub more : (o : Option Longest) (longest : Longest) → IsBoundFrom img (depth_inside c) c longest
        → IsSoFar img Seen Entered o → IsSectionBound img Both (worst o longest)
    more None (Loop a) bound none = record { point = c; entered = (now, entered); endless = bound }
    more None (Steps n) bound none = record {
      point = c;
      entered = (now, entered);
      way = bound.way;
      most = λ p k both way. ⊎_elim
          (λ seen. absurd (none p seen both.1))
          (λ same. bound.most k (subst (λ (q : Point). FreshWay img (depth_inside q) q k) (sym same) way))
          (splits p both.0 both.1);
    }
    more (Some (Loop b)) longest bound some = record {
      point = some.point;
      entered = (keeps some.point some.entered.0, some.entered.1);
      endless = some.endless;
    }
    more (Some (Steps m)) (Loop a) bound some = record { point = c; entered = (now, entered); endless = bound }
    more (Some (Steps m)) (Steps n) bound some = ⊎_elim
        (λ lt. record {
          point = c;
          entered = (now, entered);
          way = subst (FreshWay img (depth_inside c) c) (second lt) bound.way;
          most = each m n bound some.most;
        })
        (λ le. record {
          point = some.point;
          entered = (keeps some.point some.entered.0, some.entered.1);
          way = subst (FreshWay img (depth_inside some.point) some.point) (first le) some.way;
          most = each m n bound some.most;
        })
        (cases_lt m n)
      where
        second : m < n → n ≡ max m n
        second lt = omega (arith, lt)

        first : n ≤ m → m ≡ max m n
        first le = omega (arith, le)
