use Rattle.std.proofs.Common.{◌≡◌, ◌<◌, length, arith, ap, ◌∙◌}
use Rattle.std.specs.Str.Parse.{digits_value}
use Rattle.std.proofs.lemmas.Int.Digits.{digits_value_more}
use Rattle.std.proofs.lemmas.List.{take_all}
use Rattle.std.proofs.lemmas.Grind.{common_steps}
use Rattle.rt_lines.proofs.Digits.{room, nine, digit_at}
use Rattle.rt_lines.proofs.number.value_of.Goals as goal

pub loop-digit-preserved : goal.loop-digit-preserved
loop-digit-preserved c =
    let at : c.loop-digit.digit-index < length c.args.digits.now = omega arith in
    let more = digits_value_more 10 c.args.digits.now c.loop-digit.digit-index at in
    let digit = digit_at c.args.digits.now c.loop-digit.digit-index at c.requires.digits in
    record {
      value = omega (arith, more, digit, c.from.ensures, c.loop-digit.invariant.value);
      bound =
          grind (arith, common_steps);
    }

pub returns : goal.returns
returns c =
    let digits = c.args.digits.now in
    let end : c.loop-digit.digit-index ≡ length digits = omega arith in
    record {
      value = c.loop-digit.invariant.value ∙ ap (digits_value 10)
          (take_all c.loop-digit.digit-index digits (omega arith));
      short = λ few. nine c.loop-digit.value c.loop-digit.digit-index c.loop-digit.invariant.bound
          (omega (arith, end, few));
    }

pub overflow_mul-value : goal.overflow_mul-value
overflow_mul-value c =
    let at : c.loop-digit.digit-index < length c.args.digits.now = omega arith in
    let small = room c.loop-digit.value c.loop-digit.digit-index (length c.args.digits.now) c.loop-digit.invariant.bound
    at c.requires.few in
    omega (arith, small)

pub overflow_add-value : goal.overflow_add-value
overflow_add-value c =
    let at : c.loop-digit.digit-index < length c.args.digits.now = omega arith in
    let small = room c.loop-digit.value c.loop-digit.digit-index (length c.args.digits.now) c.loop-digit.invariant.bound
    at c.requires.few in
    omega (arith, small)
