-- Where a core fits no two jobs are inside one section, and who enters one finds nobody inside it.
use Rattle.std.proofs.Common.{◌≡◌, ◌≢◌, ℕ, zero, suc, ◌<◌, List, [], ◌∷◌, slice_get, Some, refl, sym, ap, subst, ◌∙◌}
use Rattle.std.proofs.Common.{arith}
use Rattle.std.specs.List.{AllByRecursion}
use Rattle.std.proofs.lemmas.Bool.{false≢true}
use Rattle.std.proofs.lemmas.Option.{same_Some, none-some}
use Rattle.rt_lemmas.proofs.Lists.{all_map, all_both}
use Rattle.rt_lemmas.proofs.Membership.{all_at, all_weaker}
use Rattle.rt_ids.specs.Choice.{IsIn}
use Rattle.rt_ids.specs.declared.ids.Section.{Section}
use Rattle.rt_code.specs.Image.{Image}
use Rattle.rt_code.specs.declared.instr.Instr.{Instr}
use Rattle.rt_trace.specs.declared.item.What.TheVariants as what
use Rattle.rt_core.specs.Core.{Context}
use Rattle.rt_points.specs.declared.point.Owner.TheVariants.{Starting}
use Rattle.rt_points.specs.declared.rule.Rule.TheVariants as rule
use Rattle.rt_points.specs.Checked.{IsChecked}
use Rattle.rt_points.specs.Leading.{IsPoint}
use Rattle.rt_points.specs.ExecutionPriority.{owner_value, execution_priority}
use Rattle.rt_points.specs.Point.{Point, sections}
use Rattle.rt_points.specs.Rules.{EntersAt}
use Rattle.rt_safe.specs.Inside.RunsAtPoints.{is_starting, base_under, IsOn, IsStacked}
use Rattle.rt_safe.specs.Inside.Steps.{insides_of, FindsNone}
use Rattle.rt_safe.proofs.Execution.{handler_value}
use Rattle.rt_safe.proofs.Keeping.{are_apart, enters_apart}
use Rattle.rt_safe.proofs.PointPriorities.{priority_within}

-- no section is open in two of these
abbrev pub AreApart : List (List Section) → Type 0
AreApart insides =
    (i j : ℕ) (a b : List Section) (x : Section) → slice_get insides i ≡ Some a → slice_get insides j ≡ Some b
    → IsIn a x → IsIn b x → i ≡ j

-- of those that are open in the first none is open in the second
abbrev IsApart : List Section → List Section → Type 0
IsApart a b = (x : Section) → IsIn a x → IsIn b x → ⊥

none_apart : AreApart []
none_apart i j a b x at_a at_b in_a in_b = absurd (none-some a at_a)

more_apart : (a : List Section) (others : List (List Section)) → AllByRecursion (IsApart a) others → AreApart others
    → AreApart (a ∷ others)
more_apart a others all apart zero zero b d x at_b at_d in_b in_d = refl
more_apart a others all apart zero (suc j) b d x at_b at_d in_b in_d =
    absurd (all_at (IsApart a) others j d all at_d x (subst (λ s. IsIn s x) (sym (same_Some a b at_b)) in_b) in_d)
more_apart a others all apart (suc i) zero b d x at_b at_d in_b in_d =
    absurd (all_at (IsApart a) others i b all at_b x (subst (λ s. IsIn s x) (sym (same_Some a d at_d)) in_d) in_b)
more_apart a others all apart (suc i) (suc j) b d x at_b at_d in_b in_d = ap suc (apart i j b d x at_b at_d in_b in_d)

module _ (img : Image) where
  -- a handler, which is not `init`
  pub not_init : (p q : Point) (base : ℕ) (x : Context) → IsOn img p q base x → p.owner ≢ Starting
  not_init p q base x on starting = absurd (false≢true (ap is_starting (sym on.handles ∙ starting)))

  -- `init` has interrupted nobody
  pub alone_in_init : (p : Point) (qs : List Point) (below : List Context) → p.owner ≡ Starting
      → IsStacked img p qs below → qs ≡ []
  alone_in_init p [] below starting stacked = refl
  alone_in_init p (q ∷ qs) [] starting stacked = absurd stacked
  alone_in_init p (q ∷ qs) (x ∷ below) starting stacked =
      absurd (not_init p q (base_under qs) x stacked.0 starting)

  -- those that were interrupted are at points
  all_points : (p : Point) (qs : List Point) (below : List Context) → IsStacked img p qs below
      → AllByRecursion (IsPoint img) qs
  all_points p [] below stacked = tt
  all_points p (q ∷ qs) [] stacked = absurd stacked
  all_points p (q ∷ qs) (x ∷ below) stacked = (stacked.0.interrupted.point, all_points q qs below stacked.1)

  -- whose execution priorities are above the value of who runs
  all_above : (p : Point) (qs : List Point) (below : List Context) → IsStacked img p qs below
      → AllByRecursion (λ q. owner_value img p.owner < execution_priority img q.owner q.inside) qs
  all_above p [] below stacked = tt
  all_above p (q ∷ qs) [] stacked = absurd stacked
  all_above p (q ∷ qs) (x ∷ below) stacked =
      let on = stacked.0 in
      let value = handler_value img p q (base_under qs) x on in
      let within = priority_within img q.owner q.inside in
      let here : owner_value img p.owner < execution_priority img q.owner q.inside = omega (arith, value, on.above) in (
        here,
        all_weaker (λ r. owner_value img q.owner < execution_priority img r.owner r.inside)
            (λ r. owner_value img p.owner < execution_priority img r.owner r.inside)
            (λ r less. omega (arith, here, within, less)) qs
            (all_above q qs below stacked.1),
      )

  -- both
  all_under : (p : Point) (qs : List Point) (below : List Context) → IsStacked img p qs below
      → AllByRecursion (λ q. IsPoint img q × (owner_value img p.owner < execution_priority img q.owner q.inside)) qs
  all_under p qs below stacked =
      all_both (IsPoint img) (λ q. owner_value img p.owner < execution_priority img q.owner q.inside) qs
      (all_points p qs below stacked) (all_above p qs below stacked)

module _ (img : Image) (checked : IsChecked img) where
  pub apart_of : (p : Point) (qs : List Point) (below : List Context) → IsPoint img p → IsStacked img p qs below
      → AreApart (insides_of (p ∷ qs))
  apart_of p [] below at stacked = more_apart (sections p.inside) [] tt none_apart
  apart_of p (q ∷ qs) [] at stacked = absurd stacked
  apart_of p (q ∷ qs) (x ∷ below) at stacked =
      more_apart (sections p.inside) (insides_of (q ∷ qs))
      (all_map (λ r. sections r.inside) _ (IsApart (sections p.inside))
      (λ r under y mine theirs.
      are_apart img checked p r y at under.0 (not_init img p q (base_under qs) x stacked.0) under.1 mine theirs)
      (q ∷ qs) (all_under img p (q ∷ qs) (x ∷ below) stacked))
      (apart_of q qs below stacked.0.interrupted.point stacked.1)

  pub finds_none : (p : Point) (qs : List Point) (below : List Context) (i : Instr) (x : Section) → EntersAt img p i x
      → IsStacked img p qs below → FindsNone (Some (what.Enter x)) (insides_of (p ∷ qs))
  finds_none p [] below i x enters stacked = ((checked rule.Ceilings p i x enters).free, tt)
  finds_none p (q ∷ qs) [] i x enters stacked = absurd stacked
  finds_none p (q ∷ qs) (y ∷ below) i x enters stacked = (
    (checked rule.Ceilings p i x enters).free,
    all_map (λ r. sections r.inside) _ (λ inside. ¬ IsIn inside x)
        (λ r under theirs.
        enters_apart img checked p r x i enters under.0 (not_init img p q (base_under qs) y stacked.0) under.1 theirs)
        (q ∷ qs) (all_under img p (q ∷ qs) (y ∷ below) stacked),
  )
