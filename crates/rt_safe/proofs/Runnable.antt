-- A core runs an image that keeps the rules.
use Rattle.std.proofs.Common.{◌≤◌, arith}
use Rattle.rt_lemmas.proofs.Membership.{all_at}
use Rattle.rt_ids.specs.declared.limits.TheConstants.{ARGUMENTS}
use Rattle.rt_code.specs.declared.image.BodyRow.{BodyRow}
use Rattle.rt_points.specs.declared.rule.Rule.TheVariants as rule
use Rattle.rt_safe.specs.Laws.{CheckedImagesRun}

pub checked_images_run : CheckedImagesRun
checked_images_run img limits cells checked =
    let numbers = checked rule.Numbers in
    record {
      sizes = record {
        few_bits = limits.few_bits;
        many_bits = limits.many_bits;
        stack_pairs = numbers.stack_pairs;
        stack_small = numbers.stack_small;
        thread_fits = omega (arith, numbers.stack_enough);
        code_short = omega (arith, limits.code);
        cells_few = cells;
      };
      rows = record {
        arguments = λ i row at. all_at (λ (r : BodyRow). r.args ≤ ARGUMENTS) img.bodies i row limits.arguments at;
        values = numbers.values;
        numbers = numbers.numbers;
      };
    }
