use Rattle.std.proofs.Common.{sym, refl, ◌∙◌, arith}
use Rattle.rt_points.specs.declared.rule.Rule.TheVariants as rule
use Rattle.rt_judge.proofs.Verdicts.{keeps_below, checked, is_false, stays, not_stays, operates, not_operates, notes}
use Rattle.rt_judge.proofs.Verdicts.{not_notes}
use Rattle.rt_judge.proofs.Verdicts.{enters, not_enters, guards, not_guards}
use Rattle.rt_judge.proofs.verdict.first_broken.Goals as goal

pub returns-then-not-has_right_numbers : goal.returns-then-not-has_right_numbers
returns-then-not-has_right_numbers c =
    let img = c.args.image.now in
    let f = c.args.findings.now in
    let looked = c.requires.looked in
    record {
      rule = rule.Numbers;
      numbered = refl;
      broken = is_false c.has_right_numbers.result c.if-not-has_right_numbers.true c.has_right_numbers.ensures;
      lower = keeps_below img 2
          (λ _. looked.nests)
          (λ lt. absurd (omega (arith, lt)))
          (λ lt. absurd (omega (arith, lt)))
          (λ lt. absurd (omega (arith, lt)))
          (λ lt. absurd (omega (arith, lt)))
          (λ lt. absurd (omega (arith, lt)))
          (λ lt. absurd (omega (arith, lt)));
    }

pub returns-then-not-findings : goal.returns-then-not-findings
returns-then-not-findings c =
    let img = c.args.image.now in
    let f = c.args.findings.now in
    let looked = c.requires.looked in
    record {
      rule = rule.Addresses;
      numbered = refl;
      broken = not_stays img f looked c.if-not-findings.true;
      lower = keeps_below img 3
          (λ _. looked.nests)
          (λ _. c.has_right_numbers.ensures.0 c.if-not-has_right_numbers.false)
          (λ lt. absurd (omega (arith, lt)))
          (λ lt. absurd (omega (arith, lt)))
          (λ lt. absurd (omega (arith, lt)))
          (λ lt. absurd (omega (arith, lt)))
          (λ lt. absurd (omega (arith, lt)));
    }

pub returns-then-not-findings-2 : goal.returns-then-not-findings-2
returns-then-not-findings-2 c =
    let img = c.args.image.now in
    let f = c.args.findings.now in
    let looked = c.requires.looked in
    record {
      rule = rule.Operands;
      numbered = refl;
      broken = not_operates img f looked c.if-not-findings-2.true;
      lower = keeps_below img 4
          (λ _. looked.nests)
          (λ _. c.has_right_numbers.ensures.0 c.if-not-has_right_numbers.false)
          (λ _. stays img f looked c.if-not-findings.false)
          (λ lt. absurd (omega (arith, lt)))
          (λ lt. absurd (omega (arith, lt)))
          (λ lt. absurd (omega (arith, lt)))
          (λ lt. absurd (omega (arith, lt)));
    }

pub returns-then-not-findings-3 : goal.returns-then-not-findings-3
returns-then-not-findings-3 c =
    let img = c.args.image.now in
    let f = c.args.findings.now in
    let looked = c.requires.looked in
    record {
      rule = rule.Notes;
      numbered = refl;
      broken = not_notes img f looked c.if-not-findings-3.true;
      lower = keeps_below img 5
          (λ _. looked.nests)
          (λ _. c.has_right_numbers.ensures.0 c.if-not-has_right_numbers.false)
          (λ _. stays img f looked c.if-not-findings.false)
          (λ _. operates img f looked c.if-not-findings-2.false)
          (λ lt. absurd (omega (arith, lt)))
          (λ lt. absurd (omega (arith, lt)))
          (λ lt. absurd (omega (arith, lt)));
    }

pub returns-then-not-hold_off : goal.returns-then-not-hold_off
returns-then-not-hold_off c =
    let img = c.args.image.now in
    let f = c.args.findings.now in
    let looked = c.requires.looked in
    record {
      rule = rule.Ceilings;
      numbered = refl;
      broken = not_enters img f looked (sym c.hold_off.ensures ∙ c.if-not-hold_off.true);
      lower = keeps_below img 6
          (λ _. looked.nests)
          (λ _. c.has_right_numbers.ensures.0 c.if-not-has_right_numbers.false)
          (λ _. stays img f looked c.if-not-findings.false)
          (λ _. operates img f looked c.if-not-findings-2.false)
          (λ _. notes img f looked c.if-not-findings-3.false)
          (λ lt. absurd (omega (arith, lt)))
          (λ lt. absurd (omega (arith, lt)));
    }

pub returns-then-not-are_guarded : goal.returns-then-not-are_guarded
returns-then-not-are_guarded c =
    let img = c.args.image.now in
    let f = c.args.findings.now in
    let looked = c.requires.looked in
    record {
      rule = rule.Guards;
      numbered = refl;
      broken = not_guards img f looked (sym c.are_guarded.ensures ∙ c.if-not-are_guarded.true);
      lower = keeps_below img 7
          (λ _. looked.nests)
          (λ _. c.has_right_numbers.ensures.0 c.if-not-has_right_numbers.false)
          (λ _. stays img f looked c.if-not-findings.false)
          (λ _. operates img f looked c.if-not-findings-2.false)
          (λ _. notes img f looked c.if-not-findings-3.false)
          (λ _. enters img f looked (sym c.hold_off.ensures ∙ c.if-not-hold_off.false))
          (λ lt. absurd (omega (arith, lt)));
    }

pub returns-else-not-are_guarded : goal.returns-else-not-are_guarded
returns-else-not-are_guarded c =
    let img = c.args.image.now in
    let f = c.args.findings.now in
    let looked = c.requires.looked in
    let operating = operates img f looked c.if-not-findings-2.false in
    checked img looked.nests
    (c.has_right_numbers.ensures.0 c.if-not-has_right_numbers.false)
    (stays img f looked c.if-not-findings.false)
    operating
    (notes img f looked c.if-not-findings-3.false)
    (enters img f looked (sym c.hold_off.ensures ∙ c.if-not-hold_off.false))
    (guards img f looked operating (sym c.are_guarded.ensures ∙ c.if-not-are_guarded.false))
