use Rattle.std.proofs.Common.{◌∙◌, sym, arith}
use Rattle.rt_lex.specs.Number.{digits_value}
use Rattle.rt_lex.proofs.Values.{passes, is_value}
use Rattle.rt_lex.proofs.token.value_of.Goals as goal

pub returns-in_err-checked_mul : goal.returns-in_err-checked_mul
returns-in_err-checked_mul c =
    let l = c.loop-digit in
    c.from_residual.ensures ∙ sym (passes c.args.base l.value
    (digits_value c.args.base c.args.digits.now) c.args.digits.now
    l.digit-index c.requires c.loop-digit-test.true (omega (arith, c.in_err-checked_mul.ensures))
    l.invariant.goes_on)

pub returns-in_err-value : goal.returns-in_err-value
returns-in_err-value c =
    let l = c.loop-digit in
    c.from_residual-in_err-value.ensures ∙ sym (passes c.args.base l.value (digits_value c.args.base c.args.digits.now)
    c.args.digits.now l.digit-index c.requires c.loop-digit-test.true
    (omega (arith, c.in_err-value.ensures, c.in_ok-checked_mul.ensures, c.from.ensures, c.digit_value.ensures))
    l.invariant.goes_on)

pub returns : goal.returns
returns c = is_value c.args.base c.loop-digit.value (digits_value c.args.base c.args.digits.now) c.args.digits.now
    c.loop-digit.digit-index c.loop-digit.invariant.fits c.loop-digit-test.false c.loop-digit.invariant.goes_on
