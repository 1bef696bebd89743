-- A trail of addresses, each of which leads to the next.
use Rattle.std.proofs.Common.{ℕ, suc, true, List, [], ◌∷◌, ◌++◌, Option, subst, ⊎_elim, arith}
use Rattle.std.specs.List.{Contains}
use Rattle.rt_lemmas.proofs.Membership.{contains_cases, contains_none}
use Rattle.rt_code.specs.Image.{Image}
use Rattle.rt_points.specs.Point.{Point}
use Rattle.rt_points.specs.declared.point.Owner.{Owner}
use Rattle.rt_judge.specs.Inside.Walks.{Reached}
use Rattle.rt_bounds.specs.CountedWays.{all_left}
use Rattle.rt_bounds.specs.Inside.Aheads.{Ahead}
use Rattle.rt_bounds.specs.Inside.Surveys.{IsHop, IsTrail, point_at}
use Rattle.rt_bounds.specs.Ways.{Comes, Here, Further}
use Rattle.rt_bounds.proofs.Aheads.{shorter}

-- what comes to a point comes to what that comes to
pub comes_on : (img : Image) (depth : ℕ) (p q r : Point) → Comes img depth p q → Comes img depth q r → Comes img depth p r
comes_on img depth p q r (Here same) after = after
comes_on img depth p q r (Further s t u first rest) after = Further s t r first (comes_on img depth t u r rest after)

module _ (img : Image) (depth : ℕ) (goal : Option ℕ) (owner : Owner) (reached : Reached) where
  abbrev at : ℕ → Point
  at a = point_at owner reached a

  pub trail_front : (xs : List ℕ) (top : ℕ) → IsTrail img depth goal owner reached (xs ++ top ∷ [])
      → IsTrail img depth goal owner reached xs
  trail_front [] top trail = tt
  trail_front (a ∷ []) top trail = tt
  trail_front (a ∷ b ∷ xs) top trail = (trail.0, trail_front (b ∷ xs) top trail.1)

  pub trail_more : (xs : List ℕ) (top next : ℕ) → IsTrail img depth goal owner reached (xs ++ top ∷ [])
      → IsHop img depth goal (at top) (at next) → IsTrail img depth goal owner reached ((xs ++ top ∷ []) ++ next ∷ [])
  trail_more [] top next trail hop = (hop, tt)
  trail_more (a ∷ []) top next trail hop = (trail.0, (hop, tt))
  trail_more (a ∷ b ∷ xs) top next trail hop = (trail.0, trail_more (b ∷ xs) top next trail.1 hop)

  pub hop_comes : (p q : Point) → IsHop img depth goal p q → Comes img depth p q
  hop_comes p q hop = Further p hop.next q hop.goes hop.comes

  -- the top is come to from each address of the trail
  first_comes : (a : ℕ) (xs : List ℕ) (top : ℕ) → IsTrail img depth goal owner reached ((a ∷ xs) ++ top ∷ [])
      → Comes img depth (at a) (at top)
  first_comes a [] top trail = hop_comes (at a) (at top) trail.0
  first_comes a (b ∷ xs) top trail =
      comes_on img depth (at a) (at b) (at top) (hop_comes (at a) (at b) trail.0) (first_comes b xs top trail.1)

  pub trail_comes : (xs : List ℕ) (top a : ℕ) → IsTrail img depth goal owner reached (xs ++ top ∷ [])
      → Contains (xs ++ top ∷ []) a → Comes img depth (at a) (at top)
  trail_comes [] top a trail there = ⊎_elim
      (λ same. subst (λ n. Comes img depth (at n) (at top)) same (Here (at top)))
      (λ none. absurd (contains_none a none))
      (contains_cases top [] a there)
  trail_comes (b ∷ []) top a trail there = ⊎_elim
      (λ same. subst (λ n. Comes img depth (at n) (at top)) same (first_comes b [] top trail))
      (λ rest. trail_comes [] top a tt rest)
      (contains_cases b (top ∷ []) a there)
  trail_comes (b ∷ c ∷ xs) top a trail there = ⊎_elim
      (λ same. subst (λ n. Comes img depth (at n) (at top)) same (first_comes b (c ∷ xs) top trail))
      (λ rest. trail_comes (c ∷ xs) top a trail.1 rest)
      (contains_cases b ((c ∷ xs) ++ top ∷ []) a there)

  -- and from each there is a way of as many steps as from the top
  abbrev Long : ℕ → ℕ → Type 0
  Long a m = Ahead img depth goal true all_left (at a) (suc m)

  hop_long : (a b m : ℕ) → IsHop img depth goal (at a) (at b) → Long b m → Long a m
  hop_long a b m hop long =
      shorter img depth goal all_left (at a) (suc (suc m)) m (omega arith) (hop.longer (suc m) long)

  first_long : (a : ℕ) (xs : List ℕ) (top m : ℕ) → IsTrail img depth goal owner reached ((a ∷ xs) ++ top ∷ [])
      → Long top m → Long a m
  first_long a [] top m trail long = hop_long a top m trail.0 long
  first_long a (b ∷ xs) top m trail long = hop_long a b m trail.0 (first_long b xs top m trail.1 long)

  pub trail_long : (xs : List ℕ) (top a m : ℕ) → IsTrail img depth goal owner reached (xs ++ top ∷ [])
      → Contains (xs ++ top ∷ []) a → Long top m → Long a m
  trail_long [] top a m trail there long = ⊎_elim
      (λ same. subst (λ n. Long n m) same long)
      (λ none. absurd (contains_none a none))
      (contains_cases top [] a there)
  trail_long (b ∷ []) top a m trail there long = ⊎_elim
      (λ same. subst (λ n. Long n m) same (first_long b [] top m trail long))
      (λ rest. trail_long [] top a m tt rest long)
      (contains_cases b (top ∷ []) a there)
  trail_long (b ∷ c ∷ xs) top a m trail there long = ⊎_elim
      (λ same. subst (λ n. Long n m) same (first_long b (c ∷ xs) top m trail long))
      (λ rest. trail_long (c ∷ xs) top a m trail.1 rest long)
      (contains_cases b ((c ∷ xs) ++ top ∷ []) a there)
