-- Ways that may end at a goal: their parts, and what turns are left on them.
use Rattle.std.proofs.Common.{◌≡◌, ◌≢◌, ◌≤◌, ◌<◌, ◌-◌, ◌==◌, ℕ, zero, suc, Bool, true, false, if◌then◌else◌}
use Rattle.std.proofs.Common.{Option, Some, None, refl, sym, ap, subst, ◌∙◌, inl, arith}
use Rattle.rt_code.specs.Image.{Image}
use Rattle.rt_points.specs.Point.{Point}
use Rattle.rt_points.specs.declared.point.Owner.{Owner}
use Rattle.rt_bounds.specs.Bounds.{IsBoundFrom}
use Rattle.rt_bounds.specs.Counting.{CountingLoop, IsCounting}
use Rattle.rt_bounds.specs.CountedWays.{CountedWay, Left, all_left, left_after}
use Rattle.rt_bounds.specs.CountedWays as counted
use Rattle.rt_bounds.specs.Inside.Aheads.{Ahead, There, Stops, Goes_on, IsAhead}
use Rattle.rt_bounds.specs.declared.longest.Longest.{Longest}
use Rattle.rt_bounds.specs.declared.longest.Longest.TheVariants.{Steps, Loop}

-- what is left after a step
pub after_else : (left : Left) (p q : Point) (c : CountingLoop) → p.address ≢ c.place.jump
    → left_after left p q c ≡ left c
after_else left p q c apart =
    let is : (p.address == c.place.jump) ≡ false = grind (arith, apart) in
    ap (λ (b : Bool). if b then (if q.address == c.place.stay then left c - 1 else c.turns) else left c) is

pub after_stay : (left : Left) (p q : Point) (c : CountingLoop) → p.address ≡ c.place.jump → q.address ≡ c.place.stay
    → left_after left p q c ≡ left c - 1
after_stay left p q c at to =
    let is : (p.address == c.place.jump) ≡ true = grind (arith, at) in
    let on : (q.address == c.place.stay) ≡ true = grind (arith, to) in
    ap (λ (b : Bool). if b then (if q.address == c.place.stay then left c - 1 else c.turns) else left c) is
    ∙ ap (λ (b : Bool). if b then left c - 1 else c.turns) on

pub after_out : (left : Left) (p q : Point) (c : CountingLoop) → p.address ≡ c.place.jump → q.address ≢ c.place.stay
    → left_after left p q c ≡ c.turns
after_out left p q c at to =
    let is : (p.address == c.place.jump) ≡ true = grind (arith, at) in
    let on : (q.address == c.place.stay) ≡ false = grind (arith, to) in
    ap (λ (b : Bool). if b then (if q.address == c.place.stay then left c - 1 else c.turns) else left c) is
    ∙ ap (λ (b : Bool). if b then left c - 1 else c.turns) on

-- the same turns are left of all loops that count, but for one whose jump is the goal
abbrev pub IsAlike : Image → Owner → Option ℕ → Left → Left → Type 0
IsAlike img owner goal left other =
    (c : CountingLoop) → IsCounting img owner c → goal ≢ Some c.place.jump → left c ≡ other c

after_alike : (img : Image) (owner : Owner) (goal : Option ℕ) (left other : Left) (p q : Point)
    → IsAlike img owner goal left other → IsAlike img owner goal (left_after left p q) (left_after other p q)
after_alike img owner goal left other p q alike c is apart =
    ap (λ n. if p.address == c.place.jump then (if q.address == c.place.stay then n - 1 else c.turns) else n)
    (alike c is apart)

pub with_left : (img : Image) (owner : Owner) (depth : ℕ) (goal : Option ℕ) (anywhere : Bool) (left other : Left)
    (p : Point) (n : ℕ) → p.owner ≡ owner → IsAlike img owner goal left other → Ahead img depth goal anywhere left p n
    → Ahead img depth goal anywhere other p n
with_left img owner depth goal anywhere left other p n mine alike (There l same at) = There other same at
with_left img owner depth goal anywhere left other p n mine alike (Stops l same apart ends) = Stops other same apart ends
with_left img owner depth goal anywhere left other p n mine alike (Goes_on l same q m apart goes may way) =
    Goes_on other same q m apart goes
    (λ c is at to. subst (λ k. 0 < k)
    (alike c (subst (λ o. IsCounting img o c) mine is) (λ e. apart (e ∙ ap Some (sym at))))
    (may c is at to))
    (with_left img owner depth goal anywhere (left_after l same q) (left_after other same q) q m (goes.owner ∙ mine)
    (after_alike img owner goal l other same q alike) way)

-- a way that is to reach its goal is a way
pub any_way : (img : Image) (depth : ℕ) (goal : Option ℕ) (left : Left) (p : Point) (n : ℕ)
    → Ahead img depth goal false left p n → Ahead img depth goal true left p n
any_way img depth goal left p n (There l same at) = There l same at
any_way img depth goal left p n (Stops l same apart ends) = Stops l same apart (inl refl)
any_way img depth goal left p n (Goes_on l same q m apart goes may way) =
    Goes_on l same q m apart goes may (any_way img depth goal (left_after l same q) q m way)

-- the first steps of a way are one
pub shorter : (img : Image) (depth : ℕ) (goal : Option ℕ) (left : Left) (p : Point) (n m : ℕ) → suc m ≤ n
    → Ahead img depth goal true left p n → Ahead img depth goal true left p (suc m)
shorter img depth goal left p n m few (There l same at) = absurd (omega (arith, few))
shorter img depth goal left p n m few (Stops l same apart ends) =
    subst (Ahead img depth goal true l same) (let e : 1 ≡ suc m = omega (arith, few) in e) (Stops l same apart ends)
shorter img depth goal left p n zero few (Goes_on l same q k apart goes may way) = Stops l same apart (inl refl)
shorter img depth goal left p n (suc m) few (Goes_on l same q k apart goes may way) =
    Goes_on l same q (suc m) apart goes may
    (shorter img depth goal (left_after l same q) q k m (omega (arith, few)) way)

-- without a goal they are the counted ways
pub counted_of : (img : Image) (depth : ℕ) (anywhere : Bool) (left : Left) (p : Point) (n : ℕ)
    → Ahead img depth None anywhere left p n → CountedWay img depth left p n
counted_of img depth anywhere left p n (There l same at) = absurd cc
counted_of img depth anywhere left p n (Stops l same apart ends) = counted.Stops l same
counted_of img depth anywhere left p n (Goes_on l same q m apart goes may way) =
    counted.Goes_on l same q m goes may (counted_of img depth anywhere (left_after l same q) q m way)

pub of_counted : (img : Image) (depth : ℕ) (left : Left) (p : Point) (n : ℕ) → CountedWay img depth left p n
    → Ahead img depth None true left p n
of_counted img depth left p n (counted.Stops l same) = Stops l same (λ e. cc) (inl refl)
of_counted img depth left p n (counted.Goes_on l same q m goes may way) =
    Goes_on l same q m (λ e. cc) goes may (of_counted img depth (left_after l same q) q m way)

pub bound_of : (img : Image) (depth : ℕ) (p : Point) (longest : Longest) → IsAhead img depth None p longest
    → IsBoundFrom img depth p longest
bound_of img depth p (Steps n) is = record {
  way = counted_of img depth false all_left p n is.way;
  most = λ m way. is.most m (of_counted img depth all_left p m way);
}
bound_of img depth p (Loop a) is =
    record { loop = is.loop; long = counted_of img depth true all_left p _ is.long }
