-- What open sections saved is kept where other slots are written; and who is interrupted stays so whatever the running
-- one's address and sections are.
use Rattle.std.proofs.Common.{◌≡◌, ℕ, Bool, List, [], ◌∷◌, slice_set, sym, subst, ◌∙◌, arith, length-set}
use Rattle.std.proofs.Common.{get_or-set_other}
use Rattle.std.specs.List.{AllByRecursion}
use Rattle.rt_code.specs.Image.{Image}
use Rattle.rt_core.specs.Core.{Context}
use Rattle.rt_points.specs.declared.point.SectionKind.{SectionKind}
use Rattle.rt_points.specs.declared.point.SectionKind.TheVariants.{Mark, Raise, Mask}
use Rattle.rt_points.specs.declared.point.Opened.{Opened}
use Rattle.rt_points.specs.Point.{Point}
use Rattle.rt_points.specs.Rules as rules
use Rattle.rt_safe.specs.Inside.RunsAtPoints.{base_inside, mask_inside, KeepsMask, KeepMasks, IsLowest, IsStacked}

-- the slot of no open section is written
pub saves_kept : (slots : List ℕ) (d v : ℕ) (inside : List Opened) (base : ℕ) (mask : Bool)
    → AllByRecursion (λ o. ¬ rules.Saves o.kind d) inside → KeepMasks slots inside base mask
    → KeepMasks (slice_set slots d v) inside base mask
saves_kept slots d v [] base mask free saves = tt
saves_kept slots d v (o ∷ outer) base mask free saves =
    (one o.kind free.0 saves.0, saves_kept slots d v outer base mask free.1 saves.1)
  where
    one : (kind : SectionKind) → ¬ rules.Saves kind d
        → KeepsMask slots kind (base_inside outer base) (mask_inside outer mask)
        → KeepsMask (slice_set slots d v) kind (base_inside outer base) (mask_inside outer mask)
    one Mark other saves = tt
    one (Raise slot value) other saves = (
      let long = length-set slots d v in omega (arith, long, saves.0),
      get_or-set_other slots d slot v 0 (λ same. other (sym same)) ∙ saves.1,
    )
    one (Mask slot) other saves = (
      let long = length-set slots d v in omega (arith, long, saves.0),
      get_or-set_other slots d slot v 0 (λ same. other (sym same)) ∙ saves.1,
    )

-- who runs is the same
pub stacked_alike : (img : Image) (p r : Point) → p.owner ≡ r.owner → (qs : List Point) (below : List Context)
    → IsStacked img p qs below → IsStacked img r qs below
stacked_alike img p r same [] [] stacked = subst IsLowest same stacked
stacked_alike img p r same [] (x ∷ below) stacked = stacked
stacked_alike img p r same (q ∷ qs) [] stacked = stacked
stacked_alike img p r same (q ∷ qs) (x ∷ below) stacked =
    let on = stacked.0 in (
      record {
        index = on.index;
        handler = on.handler;
        enabled = on.enabled;
        handles = sym same ∙ on.handles;
        value = on.value;
        above = on.above;
        address = on.address;
        caller = on.caller;
        interrupted = on.interrupted;
      },
      stacked.1,
    )
