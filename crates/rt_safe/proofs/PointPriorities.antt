-- The execution priority of the core is the execution priority of the point at which it runs.
use Rattle.std.proofs.Common.{◌≡◌, ℕ, ◌<◌, ◌≤◌, ◌==◌, min, Bool, true, false, if◌then◌else◌, List, [], ◌∷◌, refl, sym}
use Rattle.std.proofs.Common.{ap, ◌∙◌, arith}
use Rattle.std.proofs.lemmas.Bool.{eqb-true}
use Rattle.rt_ids.specs.declared.limits.TheConstants.{THREAD_VALUE}
use Rattle.rt_code.specs.Image.{Image}
use Rattle.rt_core.specs.Priority.{base_value, mask_value}
use Rattle.rt_points.specs.declared.point.SectionKind.{SectionKind}
use Rattle.rt_points.specs.declared.point.SectionKind.TheVariants.{Mark, Raise, Mask}
use Rattle.rt_points.specs.declared.point.Opened.{Opened}
use Rattle.rt_points.specs.declared.point.Owner.{Owner}
use Rattle.rt_points.specs.declared.point.Owner.TheVariants.{Starting, Thread, Handling}
use Rattle.rt_points.specs.ExecutionPriority.{owner_value, lowered_value, execution_priority}
use Rattle.rt_safe.specs.Inside.RunsAtPoints.{is_starting, base_by, mask_by, base_inside, mask_inside, IsLowest}

-- the three masks together
unfoldable pub held_off : ℕ → ℕ → Bool → ℕ
held_off v base mask = min v (min (base_value base) (mask_value mask))

base_of_some : (v : ℕ) → 0 < v → base_value v ≡ v
base_of_some v some = go (v == 0) refl
  where
    go : (b : Bool) → (v == 0) ≡ b → (if b then THREAD_VALUE else v) ≡ v
    go true is = absurd (let e : v ≡ 0 = eqb-true v 0 is in omega arith)
    go false is = refl

-- a priority value at most of what is held off by a lower value
raised : (v b m l w : ℕ) → min v (min b m) ≡ l → w < l → min v (min w m) ≡ w
raised v b m l w is less = omega arith

masked : (v b l : ℕ) → l ≡ l → min v (min b 0) ≡ 0
masked v b l same = omega arith

pub begun : (v b m l w : ℕ) → min v (min b m) ≡ l → w < l → min w (min b m) ≡ w
begun v b m l w is less = omega arith

module _ (img : Image) where
  -- an open raise has a value above 0 and below the execution priority of the sections further out
  abbrev pub IsRaisedWell : SectionKind → ℕ → Type 0
  IsRaisedWell (Raise slot value) priority = (0 < value) × (value < priority)
  IsRaisedWell kind priority = Unit {0}

  abbrev pub AreRaisedWell : Owner → List Opened → Type 0
  AreRaisedWell owner [] = Unit {0}
  AreRaisedWell owner (o ∷ outer) = IsRaisedWell o.kind (execution_priority img owner outer) × AreRaisedWell owner outer

  one_inside : (v base priority : ℕ) (mask : Bool) (kind : SectionKind) → IsRaisedWell kind priority
      → held_off v base mask
      ≡ priority
      → held_off v (base_by kind base) (mask_by kind mask) ≡ lowered_value kind priority
  unfolding held_off
  one_inside v base priority mask Mark well is = is
  one_inside v base priority mask (Raise slot value) well is =
      let same : min value priority ≡ value = omega (arith, well.1) in
      ap (λ b. min v (min b (mask_value mask))) (base_of_some value well.0)
      ∙ raised v (base_value base) (mask_value mask) priority value is well.1 ∙ sym same
  one_inside v base priority mask (Mask slot) well is = masked v (base_value base) priority refl

  pub inside_holds : (v base : ℕ) (mask : Bool) (owner : Owner) (inside : List Opened) → AreRaisedWell owner inside
      → held_off v base mask ≡ owner_value img owner
      → held_off v (base_inside inside base) (mask_inside inside mask) ≡ execution_priority img owner inside
  inside_holds v base mask owner [] well start = start
  inside_holds v base mask owner (o ∷ outer) well start =
      one_inside v (base_inside outer base) (execution_priority img owner outer) (mask_inside outer mask) o.kind well.0
      (inside_holds v base mask owner outer well.1 start)

  -- a section lowers the execution priority
  pub lowered_falls : (kind : SectionKind) (priority : ℕ) → lowered_value kind priority ≤ priority
  lowered_falls Mark priority = omega arith
  lowered_falls (Raise slot value) priority = omega arith
  lowered_falls (Mask slot) priority = omega arith

  -- so it is at most the owner's
  pub priority_within : (owner : Owner) (inside : List Opened) → execution_priority img owner inside ≤ owner_value img
      owner
  priority_within owner [] = omega arith
  priority_within owner (o ∷ outer) =
      let before = priority_within owner outer in
      let less = lowered_falls o.kind (execution_priority img owner outer) in omega (arith, before, less)

  -- above 0, no mask is open, and it is not `init` that runs
  pub unmasked : (owner : Owner) (inside : List Opened) → 0 < execution_priority img owner inside
      → mask_inside inside (is_starting owner) ≡ false
  unmasked Starting [] some = absurd (omega (arith, some))
  unmasked Thread [] some = refl
  unmasked (Handling index) [] some = refl
  unmasked owner (o ∷ outer) some = by o.kind some (unmasked owner outer)
    where
      by : (kind : SectionKind) → 0 < lowered_value kind (execution_priority img owner outer)
          → (0 < execution_priority img owner outer → mask_inside outer (is_starting owner) ≡ false)
          → mask_by kind (mask_inside outer (is_starting owner)) ≡ false
      by Mark some before = before some
      by (Raise slot value) some before = before (omega (arith, some))
      by (Mask slot) some before = absurd (omega (arith, some))

  pub lowest_starts : (owner : Owner) → IsLowest owner
      → held_off THREAD_VALUE 0 (is_starting owner) ≡ owner_value img owner
  unfolding held_off
  lowest_starts Starting is = refl
  lowest_starts Thread is = refl
  lowest_starts (Handling index) is = absurd is
