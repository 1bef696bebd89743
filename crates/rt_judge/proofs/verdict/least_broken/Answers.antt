use Rattle.std.proofs.Common.{refl, arith}
use Rattle.rt_points.specs.Rules.{NestsInOneWay}
use Rattle.rt_points.specs.declared.rule.Rule.TheVariants as rule
use Rattle.rt_judge.specs.Inside.Looks.{Looked}
use Rattle.rt_judge.proofs.Looking.{none_case}
use Rattle.rt_judge.proofs.Verdicts.{keeps_below}
use Rattle.rt_judge.proofs.verdict.least_broken.Goals as goal

pub returns-in-None : goal.returns-in-None
returns-in-None c =
    let img = c.args.image.now in
    record {
      rule = rule.Nesting;
      numbered = refl;
      broken = none_case c.in_ok-findings.field-0 (¬ NestsInOneWay img) (Looked img) c.in-None.is
          c.in_ok-findings.ensures;
      lower = keeps_below img 1
          (λ lt. absurd (omega (arith, lt)))
          (λ lt. absurd (omega (arith, lt)))
          (λ lt. absurd (omega (arith, lt)))
          (λ lt. absurd (omega (arith, lt)))
          (λ lt. absurd (omega (arith, lt)))
          (λ lt. absurd (omega (arith, lt)))
          (λ lt. absurd (omega (arith, lt)));
    }
