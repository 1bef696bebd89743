-- The execution priority of a core that fits is the execution priority of the point at which it runs.
use Rattle.std.proofs.Common.{◌≡◌, ℕ, ◌<◌, min, Bool, false, List, [], ◌∷◌, sym, ap, ◌∙◌, arith}
use Rattle.rt_ids.specs.declared.limits.TheConstants.{THREAD_VALUE}
use Rattle.rt_code.specs.Image.{Image}
use Rattle.rt_core.specs.Core.{Context, Core}
use Rattle.rt_core.specs.Priority.{running_value, base_value, mask_value, execution}
use Rattle.rt_points.specs.declared.point.Owner.{Owner}
use Rattle.rt_points.specs.declared.point.Owner.TheVariants.{Handling}
use Rattle.rt_points.specs.Checked.{IsChecked}
use Rattle.rt_points.specs.Leading.{IsPoint}
use Rattle.rt_points.specs.ExecutionPriority.{owner_value, execution_priority}
use Rattle.rt_points.specs.Point.{Point}
use Rattle.rt_safe.specs.Inside.RunsAtPoints.{is_starting, base_inside, mask_inside, base_under, IsOn, IsStacked}
use Rattle.rt_safe.specs.Inside.RunsAtPoints.{RunsAtPoints}
use Rattle.rt_safe.proofs.PointPriorities.{held_off, begun, inside_holds, unmasked, lowest_starts}
use Rattle.rt_safe.proofs.Depth.{value_is}
use Rattle.rt_safe.proofs.Keeping.{raised_well}

module _ (img : Image) where
  -- on what it interrupted, whose masks hold off more, a handler has its own value
  begins_on : (v w base priority : ℕ) (mask : Bool) → held_off v base mask ≡ priority → w < priority → mask ≡ false
      → held_off w base false ≡ w
  unfolding held_off
  begins_on v w base priority mask is above clear =
      ap (λ m. min w (min (base_value base) (mask_value m))) (sym clear)
      ∙ begun v (base_value base) (mask_value mask) priority w is above

  not_starting : (owner : Owner) (index : ℕ) → owner ≡ Handling index → is_starting owner ≡ false
  not_starting owner index is = ap is_starting is

  pub handler_value : (p q : Point) (base : ℕ) (x : Context) (on : IsOn img p q base x)
      → owner_value img p.owner ≡ on.handler.value
  handler_value p q base x on = ap (owner_value img) on.handles ∙ value_is img on.index on.handler on.enabled

module _ (img : Image) (checked : IsChecked img) where
  masks_are : (p : Point) (qs : List Point) (below : List Context) → IsPoint img p → IsStacked img p qs below
      → held_off (running_value below) (base_inside p.inside (base_under qs))
      (mask_inside p.inside (is_starting p.owner))
      ≡ execution_priority img p.owner p.inside
  masks_are p [] [] at stacked =
      inside_holds img THREAD_VALUE 0 (is_starting p.owner) p.owner p.inside (raised_well img checked p at)
      (lowest_starts img p.owner stacked)
  masks_are p [] (x ∷ below) at stacked = absurd stacked
  masks_are p (q ∷ qs) [] at stacked = absurd stacked
  masks_are p (q ∷ qs) (x ∷ below) at stacked =
      let on = stacked.0 in
      let clear : mask_inside q.inside (is_starting q.owner) ≡ false =
      unmasked img q.owner q.inside (omega (arith, on.above)) in
      let start : held_off on.handler.value (base_under (q ∷ qs)) false ≡ on.handler.value =
      begins_on img (running_value below) on.handler.value (base_under (q ∷ qs))
      (execution_priority img q.owner q.inside)
      (mask_inside q.inside (is_starting q.owner))
      (masks_are q qs below on.interrupted.point stacked.1) on.above clear in
      let begins : held_off x.value (base_under (q ∷ qs)) (is_starting p.owner) ≡ owner_value img p.owner =
      ap (λ v. held_off v (base_under (q ∷ qs)) (is_starting p.owner)) on.value
      ∙ ap (held_off on.handler.value (base_under (q ∷ qs))) (not_starting img p.owner on.index on.handles)
      ∙ start ∙ sym (handler_value img p q (base_under qs) x on) in
      inside_holds img x.value (base_under (q ∷ qs)) (is_starting p.owner) p.owner p.inside
      (raised_well img checked p at) begins

  pub execution_is : (c : Core) (p : Point) (qs : List Point) → RunsAtPoints img c p qs
      → execution c ≡ execution_priority img p.owner p.inside
  unfolding held_off
  execution_is c p qs fits =
      ap (λ b. min (running_value c.below) (min (base_value b) (mask_value c.processor.primask))) fits.basepri
      ∙ ap (λ m. min (running_value c.below) (min (base_value (base_inside p.inside (base_under qs))) (mask_value m)))
      fits.primask
      ∙ masks_are p qs c.below fits.running.point fits.stack
