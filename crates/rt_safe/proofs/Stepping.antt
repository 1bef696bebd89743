-- A core that fits steps to one that fits again.
use Rattle.std.proofs.Common.{◌≡◌, List, Option, Some, None, refl, sym, ap, subst, ◌∙◌}
use Rattle.rt_ids.specs.declared.ids.BodyId.TheVariants as body
use Rattle.rt_code.specs.Effect.{unchecked_effect}
use Rattle.rt_code.specs.Image.{Image}
use Rattle.rt_code.specs.declared.image.IrqRow.{IrqRow}
use Rattle.rt_code.specs.declared.instr.Instr.{Instr}
use Rattle.rt_code.specs.declared.instr.Instr.TheVariants as instr
use Rattle.rt_code.specs.declared.instr.Note.{Note}
use Rattle.rt_code.specs.declared.instr.Note.TheVariants as note
use Rattle.rt_core.specs.Core.{Core}
use Rattle.rt_core.specs.Priority.{pick}
use Rattle.rt_points.specs.Checked.{IsChecked}
use Rattle.rt_points.specs.Leading.{owner_after, inside_after}
use Rattle.rt_points.specs.Point.{Point}
use Rattle.rt_points.specs.Rules.{EntersAt}
use Rattle.rt_safe.specs.Inside.RunsAtPoints.{RunsAtPoints}
use Rattle.rt_safe.specs.Inside.Lines.{opening_instr, ActsOnSections, Simply, Anew, Opens, Closes, EndsInit, Returns}
use Rattle.rt_safe.specs.Inside.Steps.{Steps}
use Rattle.rt_safe.proofs.Advancing.{Advances, simply, anew, advances}
use Rattle.rt_safe.proofs.Apart.{finds_none}
use Rattle.rt_safe.proofs.Ending.{ends_init, returns}
use Rattle.rt_safe.proofs.Keeping.{owner_of_simple}
use Rattle.rt_safe.proofs.Lines.{HasLine, line_at}
use Rattle.rt_safe.proofs.Sections.{opens_section, closes_section}
use Rattle.rt_safe.proofs.Taking.{takes}

module _ (img : Image) (checked : IsChecked img) (c : Core) (p : Point) (qs : List Point)
    (fits : RunsAtPoints img c p qs) where
  by_line : (line : HasLine img p) → pick img c ≡ None → ActsOnSections p line.instr line.told → Steps img c p qs
  by_line line picked (Simply simple untold unsaved) =
      advances img checked c p qs fits line picked
      (subst (λ n. Advances img c p.inside line.instr n (unchecked_effect line.instr c.time c.processor)) (sym untold)
      (simply img c p.inside line.instr simple unsaved))
      (owner_of_simple line.instr p.owner simple) (ap (λ n. inside_after line.instr n p.inside) untold)
  by_line line picked (Anew to is tells thread) =
      let same : ◌≡◌ {A = Instr × Option Note} (line.instr, line.told) (instr.Jump to, Some (note.End body.Idle)) =
      λ k. (is k, tells k) in
      advances img checked c p qs fits line picked
      (subst (λ (l : Instr × Option Note). Advances img c p.inside l.0 l.1 (unchecked_effect l.0 c.time c.processor))
      (sym same)
      (anew img c p.inside to))
      (ap (λ i. owner_after i p.owner) is) (ap (λ n. inside_after line.instr n p.inside) tells)
  by_line line picked (Opens x kind is tells) =
      let same : ◌≡◌ {A = Instr × Option Note} (line.instr, line.told) (opening_instr kind, Some (note.Enter x)) =
      λ k. (is k, tells k) in
      let enters : EntersAt img p (opening_instr kind) x =
      (fits.running.point, line.stands.1 ∙ ap (λ (l : Instr × Option Note). Some l) same) in
      opens_section img checked c p qs fits line picked x kind is tells
      (finds_none img checked p qs c.below (opening_instr kind) x enters fits.stack)
  by_line line picked (Closes x kind outer inside is tells) =
      closes_section img checked c p qs fits line picked x kind outer inside is tells
  by_line line picked (EndsInit is tells starting none) =
      ends_init img checked c p qs fits line picked is tells starting none
  by_line line picked (Returns index is untold handles none) =
      returns img checked c p qs fits line picked index is untold handles none

  pub steps : Steps img c p qs
  steps = by (pick img c) refl
    where
      by : (o : Option IrqRow) → pick img c ≡ o → Steps img c p qs
      by None picked =
          let line : HasLine img p = line_at img checked p fits.running.point in by_line line picked line.kind
      by (Some row) picked = takes img checked c p qs fits row picked
