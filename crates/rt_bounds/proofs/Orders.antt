-- The order of the rows of sections.
use Rattle.std.proofs.Common.{◌≡◌, ◌<◌, ℕ, Bool, true, false, List, [], ◌∷◌, ◌++◌, map, length}
use Rattle.std.proofs.Common.{if◌then◌else◌, refl, sym, subst, inl, inr, ⊎_elim, arith}
use Rattle.std.specs.List.{AllByRecursion, Contains}
use Rattle.std.proofs.lemmas.Bool.{cases_lt}
use Rattle.rt_lemmas.proofs.Membership.{all_append, all_has, all_weaker}
use Rattle.rt_actions.specs.Location.{is_same_section}
use Rattle.rt_ids.specs.declared.ids.Section.{Section}
use Rattle.rt_code.specs.Image.{Image}
use Rattle.rt_points.specs.Point.{Point}
use Rattle.rt_points.specs.declared.point.Owner.{Owner}
use Rattle.rt_bounds.specs.Bounds.{AreInOrder, ComesBefore, IsEnteredBefore, IsSectionBound, StandsBefore, place}
use Rattle.rt_bounds.specs.Inside.Gathered.{AreEarlier, IsBefore, widened, worse}
use Rattle.rt_bounds.specs.declared.bound.SectionBound.{SectionBound}
use Rattle.rt_bounds.specs.declared.longest.Longest.{Longest}
use Rattle.rt_bounds.specs.declared.longest.Longest.TheVariants.{Steps, Loop}

-- a bound of sections is of one that is entered somewhere
pub bound_point : (img : Image) (Entered : Point → Type 0) (longest : Longest)
    → IsSectionBound img Entered longest → (p : Point) × Entered p
bound_point img Entered (Steps n) bound = (bound.point, bound.entered)
bound_point img Entered (Loop a) bound = (bound.point, bound.entered)

-- what comes before an address comes before all that does not
pub before_other : (depth address : ℕ) (p q : Point) → IsBefore depth address p → ¬ IsBefore depth address q
    → ComesBefore p q
before_other depth address p q (inl less) other = ⊎_elim
    (λ fewer. absurd (other (inl fewer)))
    (λ enough. inl (omega (arith, less, enough)))
    (cases_lt (length q.inside) depth)
before_other depth address p q (inr both) other = ⊎_elim
    (λ more. inl (let same = both.0 in omega (arith, same, more)))
    (λ no_more. ⊎_elim
    (λ fewer. absurd (other (inl fewer)))
    (λ enough.
    let same : length q.inside ≡ depth = omega (arith, no_more, enough) in
    inr (
      (let one = both.0 in omega (arith, one, same)),
      ⊎_elim
          (λ lower. absurd (other (inr (same, lower))))
          (λ higher. let low = both.1 in omega (arith, low, higher))
          (cases_lt q.address address),
    ))
    (cases_lt (length q.inside) depth))
    (cases_lt depth (length q.inside))

-- rows in order, and a row behind them
pub order_push : (img : Image) (rows : List SectionBound) (row : SectionBound) → AreInOrder img rows
    → AllByRecursion (λ a. StandsBefore img a row) rows → AreInOrder img (rows ++ row ∷ [])
order_push img [] row order before = (tt, tt)
order_push img (a ∷ rows) row order before = (
  all_append (StandsBefore img a) rows (row ∷ []) order.0 (before.0, tt),
  order_push img rows row order.1 before.1,
)

-- or more rows
order_append : (img : Image) (rows more : List SectionBound) → AreInOrder img rows → AreInOrder img more
    → AllByRecursion (λ a. AllByRecursion (StandsBefore img a) more) rows → AreInOrder img (rows ++ more)
order_append img [] more order order_more before = order_more
order_append img (a ∷ rows) more order order_more before = (
  all_append (StandsBefore img a) rows more order.0 before.0,
  order_append img rows more order.1 order_more before.1,
)

-- those of an owner behind those of owners before
pub order_owners : (img : Image) (done : List Owner) (owner : Owner) (rows own : List SectionBound)
    → AreEarlier owner done → AllByRecursion (λ row. Contains done row.owner) rows
    → AllByRecursion (λ row. row.owner ≡ owner) own → AreInOrder img rows → AreInOrder img own
    → AreInOrder img (rows ++ own)
order_owners img done owner rows own earlier owners mine order order_own =
    order_append img rows own order order_own
    (all_weaker (λ row. Contains done row.owner) (λ a. AllByRecursion (StandsBefore img a) own)
    (λ a is. all_weaker (λ row. row.owner ≡ owner) (StandsBefore img a)
    (λ b same. inl (subst (λ o. place a.owner < place o) (sym same)
    (all_has (λ o. place o < place owner) done a.owner earlier is)))
    own mine)
    rows owners)

-- rows of the same owners and sections
same_before : (img : Image) (a b c d : SectionBound) → a.owner ≡ c.owner → a.section ≡ c.section → b.owner ≡ d.owner
    → b.section ≡ d.section → StandsBefore img a b → StandsBefore img c d
same_before img a b c d one x other y (inl less) =
    inl (subst (λ o. place o < place d.owner) one (subst (λ o. place a.owner < place o) other less))
same_before img a b c d one x other y (inr both) = inr (
  subst (λ o. o ≡ d.owner) one (subst (λ o. a.owner ≡ o) other both.0),
  subst (λ o. IsEnteredBefore img o c.section d.section) other
      (subst (λ s. IsEnteredBefore img b.owner s d.section) x
      (subst (λ s. IsEnteredBefore img b.owner a.section s) y both.1)),
)

module _ (img : Image) (x : Section) (longest : Longest) where
  abbrev wide : SectionBound → SectionBound
  wide row = widened x longest row

  of_owner : (row : SectionBound) → row.owner ≡ (wide row).owner
  of_owner row = by_test (is_same_section row.section x)
    where
      by_test : (b : Bool)
          → row.owner ≡ (if b then record row { longest = worse row.longest longest } else row).owner
      by_test true = refl
      by_test false = refl

  of_section : (row : SectionBound) → row.section ≡ (wide row).section
  of_section row = by_test (is_same_section row.section x)
    where
      by_test : (b : Bool)
          → row.section ≡ (if b then record row { longest = worse row.longest longest } else row).section
      by_test true = refl
      by_test false = refl

  all_wide : (a : SectionBound) (rows : List SectionBound) → AllByRecursion (StandsBefore img a) rows
      → AllByRecursion (StandsBefore img (wide a)) (map (widened x longest) rows)
  all_wide a [] all = tt
  all_wide a (b ∷ rows) all = (
    same_before img a b (wide a) (wide b) (of_owner a) (of_section a) (of_owner b) (of_section b) all.0,
    all_wide a rows all.1,
  )

  -- one more bound of a section leaves them in order
  pub order_widened : (rows : List SectionBound) → AreInOrder img rows → AreInOrder img (map (widened x longest) rows)
  order_widened [] order = tt
  order_widened (a ∷ rows) order = (all_wide a rows order.0, order_widened rows order.1)
