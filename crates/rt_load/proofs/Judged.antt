-- What the judge asks of an image and says of it.
use Rattle.std.proofs.Common.{◌≡◌, ◌≤◌, ◌<◌, ℕ, List, length, Result, Ok, Err, refl, ap, sym, ◌∙◌, arith}
use Rattle.std.specs.Prelude.{IfOk}
use Rattle.std.proofs.lemmas.List.{length-map}
use Rattle.rt_lemmas.proofs.Membership.{all_weaker}
use Rattle.rt_ids.specs.Names.{Names}
use Rattle.rt_ids.specs.Naming.{task_name}
use Rattle.rt_ids.specs.declared.limits.TheConstants.{IRQ_NUMBERS, ARGUMENTS}
use Rattle.rt_code.specs.Image.{Image}
use Rattle.rt_code.specs.declared.image.IrqRow.{IrqRow}
use Rattle.rt_code.specs.declared.image.BodyRow.{BodyRow}
use Rattle.rt_judge.specs.declared.verdict.Verified.{Verified}
use Rattle.rt_judge.specs.declared.verdict.Verified.TheVariants as verified
use Rattle.rt_points.specs.Checked.{IsChecked, IsLeastBroken}
use Rattle.rt_points.specs.Limits as points
use Rattle.rt_safe.proofs.Safe.{checked_images_are_safe}
use Rattle.rt_load.specs.Loadable.{IsLoadable, IsIrqWithin, IsBodyWithin}
use Rattle.rt_load.specs.Verdict.{IsVerdict}

pub limits_of_points : (img : Image) → IsLoadable img → points.IsWithinLimits img
limits_of_points img l =
    let lim = l.fits in
    let names = lim.names in
    let few_irqs = names.few_irqs in
    let few_tasks = names.few_tasks in
    let pair : IrqRow → List ℕ × ℕ = λ row. (row.name, row.number) in
    let irqs : length img.irqs ≡ length img.names.irqs =
    sym (length-map img.irqs pair) ∙ ap (λ (n : Names). length n.irqs) l.names in
    let bodies : length img.bodies ≡ length img.names.tasks =
    sym (length-map img.bodies (λ (row : BodyRow). task_name img.names row.task))
    ∙ ap (λ (n : Names). length n.tasks) l.names in
    record {
      few_bits = lim.least_bits;
      many_bits = lim.most_bits;
      irqs = omega (arith, irqs, few_irqs);
      numbers = all_weaker IsIrqWithin (λ (row : IrqRow). row.number < IRQ_NUMBERS) (λ row within. within.number)
          img.irqs lim.irqs;
      bodies = omega (arith, bodies, few_tasks);
      arguments = all_weaker IsBodyWithin (λ (row : BodyRow). row.args ≤ ARGUMENTS) (λ row within. within.args)
          img.bodies lim.bodies;
      code = lim.few_lines;
      names = names;
    }

pub verdict_of : {E : Type 0} (img : Image) (r : Result Verified E) → (r ≡ Ok verified.Yes → IsChecked img)
    → ((n : ℕ) → r ≡ Ok (verified.No n) → IsLeastBroken img n)
    → IfOk r (λ verdict. IsVerdict img verdict)
verdict_of img (Ok verified.Yes) kept broken = let checked = kept refl in (checked, checked_images_are_safe img checked)
verdict_of img (Ok (verified.No n)) kept broken = broken n refl
verdict_of img (Err e) kept broken = tt
