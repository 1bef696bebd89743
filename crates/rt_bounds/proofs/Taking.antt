-- One address more, at which an owner enters a section or not.
use Rattle.std.proofs.Common.{◌≡◌, ◌≤◌, ◌+◌, ◌^◌, ℕ, List, [], ◌∷◌, map, length, slice_get, if◌then◌else◌, Bool}
use Rattle.std.proofs.Common.{true, false, Option, Some, None, unwrap_or, refl, sym, ap, subst, ◌∙◌, arith}
use Rattle.std.specs.List.{AllByRecursion}
use Rattle.rt_ids.specs.Priority.{hardware}
use Rattle.rt_code.specs.Image.{Image}
use Rattle.rt_code.specs.declared.instr.Note.TheVariants as note
use Rattle.rt_points.specs.Checked.{IsChecked}
use Rattle.rt_points.specs.Leading.{IsPoint}
use Rattle.rt_points.specs.Point.{Point}
use Rattle.rt_points.specs.declared.point.Opened.{Opened}
use Rattle.rt_points.specs.declared.point.Owner.{Owner}
use Rattle.rt_judge.specs.Inside.Points.{point}
use Rattle.rt_judge.specs.Inside.Walks.{reached_by}
use Rattle.rt_judge.specs.declared.walk.Walk.{Walk}
use Rattle.rt_bounds.specs.Bounds.{IsBoundFrom, IsOwnersBound, depth_inside}
use Rattle.rt_bounds.specs.Inside.Gathered.{EntersAt, EntersNoneAt, EntersNothing, IsGatheredTo, ArePriorities}
use Rattle.rt_bounds.specs.Inside.Gathered.{rows_with, held, holds_off, worst, AreOwn, AreWaitsSoFar}
use Rattle.rt_bounds.specs.Inside.Aheads.{IsAhead}
use Rattle.rt_bounds.specs.Inside.Ground.{IsMapped}
use Rattle.rt_bounds.specs.Inside.Surveys.{IsThere, point_at}
use Rattle.rt_bounds.specs.declared.bound.WaitBound.{WaitBound}
use Rattle.rt_bounds.specs.declared.gathered.Entry.{Entry}
use Rattle.rt_bounds.specs.declared.gathered.Gathered.{Gathered}
use Rattle.rt_bounds.specs.declared.longest.Longest.{Longest}
use Rattle.rt_bounds.proofs.Aheads.{bound_of}
use Rattle.rt_bounds.proofs.Grounds.{at_is, at_point, is_at}
use Rattle.rt_bounds.proofs.Mapped.{has_all}
use Rattle.rt_bounds.proofs.Rows.{own_more, own_skip, waits_more, waits_skip}

module _ (img : Image) (owner : Owner) (walk : Walk) (checked : IsChecked img) (mapped : IsMapped img owner walk)
    (depth address : ℕ) (done : List Owner) where
  pub take_skip : (g : Gathered) → EntersNoneAt img owner (reached_by walk) depth address
      → IsGatheredTo img done owner depth address g → IsGatheredTo img done owner depth (address + 1) g
  take_skip g none gathered =
      let nothing : (p : Point) → IsPoint img p → p.owner ≡ owner → length p.inside ≡ depth → p.address ≡ address
      → EntersNothing img p = λ p is mine deep there i x enters.
      none p.inside (ap (reached_by walk) (sym there) ∙ mapped.all p is mine) deep i x
      (subst (λ a. slice_get img.code a ≡ Some (i, Some (note.Enter x))) there enters) in
      record {
        own = own_skip img owner depth address nothing g.own.items gathered.own;
        waits = waits_skip img owner depth address nothing done g.waits.items gathered.waits;
      }

  pub take_more : (old new : Gathered) (e : Entry) (longest : Longest)
      → EntersAt img owner (reached_by walk) depth address e
      → IsBoundFrom img (depth + 1) (point_at owner (reached_by walk) address) longest
      → new.own.items ≡ rows_with owner e.section longest old.own.items
      → new.waits.items ≡ map (held img.bits e longest) old.waits.items
      → IsGatheredTo img done owner depth address old → IsGatheredTo img done owner depth (address + 1) new
  take_more old new e longest enters bound own waits gathered =
      let all = has_all img owner walk checked mapped in
      let c : Point = point address owner enters.inside in
      let there : IsThere (reached_by walk) address = (enters.inside, enters.there) in
      let same : point_at owner (reached_by walk) address ≡ c =
      at_is img owner (reached_by walk) all address enters.inside enters.there in
      let is : IsPoint img c = subst (IsPoint img) same (at_point img owner (reached_by walk) all address there) in
      let one : (p : Point) → IsPoint img p → p.owner ≡ owner → p.address ≡ address → c ≡ p = λ p is_p mine at.
      sym same ∙ ap (point_at owner (reached_by walk)) (sym at) ∙ is_at img owner (reached_by walk) all p is_p mine in
      let deep : depth + 1 ≡ depth_inside c = (let many = enters.many in omega (arith, many)) in
      let found : IsBoundFrom img (depth_inside c) c longest =
      subst (λ d. IsBoundFrom img d c longest) deep (subst (λ (p : Point). IsBoundFrom img (depth + 1) p longest) same
      bound) in
      record {
        own = subst (λ rows. AreOwn img owner depth (address + 1) rows) (sym own)
            (own_more img owner depth address c refl enters.many refl is one e enters.entry longest found
            old.own.items gathered.own);
        waits = subst (λ rows. AreWaitsSoFar img done owner depth (address + 1)
            rows) (sym waits)
            (waits_more img owner depth address c refl enters.many refl is one done e enters.entry longest found
            old.waits.items gathered.waits);
      }

-- the priorities of rows stay
priority_held : (bits : ℕ) (e : Entry) (longest : Longest) (row : WaitBound)
    → (held bits e longest row).priority ≡ row.priority
priority_held bits e longest row = by_test (holds_off (hardware bits row.priority) e)
  where
    by_test : (b : Bool) → (if b then record row { longest = Some (worst row.longest longest) } else row).priority
        ≡ row.priority
    by_test true = refl
    by_test false = refl

pub priorities_held : (bits : ℕ) (e : Entry) (longest : Longest) (rows : List WaitBound)
    → map (λ row. row.priority) (map (held bits e longest) rows) ≡ map (λ row. row.priority) rows
priorities_held bits e longest [] = refl
priorities_held bits e longest (row ∷ rows) =
    ap (λ n. n ∷ map (λ r. r.priority) (map (held bits e longest) rows)) (priority_held bits e longest row)
    ∙ ap (λ ns. row.priority ∷ ns) (priorities_held bits e longest rows)

abbrev IsPriorityNumber : ℕ → ℕ → Type 0
IsPriorityNumber bits p = (1 ≤ p) × (p ≤ 2 ^ bits)

numbers_are : (bits : ℕ) (rows : List WaitBound) → ArePriorities bits rows
    → AllByRecursion (IsPriorityNumber bits) (map (λ row. row.priority) rows)
numbers_are bits [] all = tt
numbers_are bits (row ∷ rows) all = (all.0, numbers_are bits rows all.1)

are_numbers : (bits : ℕ) (rows : List WaitBound)
    → AllByRecursion (IsPriorityNumber bits) (map (λ row. row.priority) rows) → ArePriorities bits rows
are_numbers bits [] all = tt
are_numbers bits (row ∷ rows) all = (all.0, are_numbers bits rows all.1)

pub priorities_stay : (bits : ℕ) (old new : List WaitBound)
    → map (λ row. row.priority) new ≡ map (λ row. row.priority) old → ArePriorities bits old → ArePriorities bits new
priorities_stay bits old new same all =
    are_numbers bits new (subst (AllByRecursion (IsPriorityNumber bits)) (sym same) (numbers_are bits old all))

-- what is found of ways to no goal is a bound
pub bound_at : (img : Image) (p : Point) (longest : Longest) (d e : ℕ) (goal : Option ℕ) → d ≡ e → goal ≡ None
    → IsAhead img d goal p longest → IsBoundFrom img e p longest
bound_at img p longest d e goal same none ahead = bound_of img e p longest
    (subst (λ (g : Option ℕ). IsAhead img e g p longest) none (subst (λ k. IsAhead img k goal p longest) same ahead))

-- a bound from where an owner begins
pub begins_at : (img : Image) (owner : Owner) (walk : Walk) (entry depth : ℕ) (goal : Option ℕ) → depth ≡ 0
    → goal ≡ None → reached_by walk entry ≡ Some [] → (longest : Longest)
    → IsAhead img depth goal (point_at owner (reached_by walk) entry) longest
    → IsOwnersBound img entry owner longest
begins_at img owner walk entry depth goal none no_goal begins longest ahead =
    subst (λ (p : Point). IsBoundFrom img 0 p longest)
    (ap (λ (o : Option (List Opened)). point entry owner (unwrap_or o [])) begins)
    (bound_at img (point_at owner (reached_by walk) entry) longest depth 0 goal none no_goal ahead)
