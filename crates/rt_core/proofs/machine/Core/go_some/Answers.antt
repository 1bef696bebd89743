use Rattle.std.proofs.Common.{◌≡◌, None, ap, rules}
use Rattle.rt_core.specs.Inside.Begun.{outcome_of_rest}
use Rattle.rt_core.specs.Outcome.{settle}
use Rattle.rt_core.specs.declared.step.Begun.TheVariants as begun
use Rattle.rt_core.proofs.machine.Core.go_some.Goals as goal

pub returns-then-matches-clause-reached : goal.returns-then-matches-clause-reached
returns-then-matches-clause-reached c =
    let silent : c.advance-begun.result ≡ begun.Silent = search rules in
    c.advance-begun.ensures.reached c.advance-begun.new.self.core None
    (ap (λ begun. settle (outcome_of_rest c.advance-begun.new.self.image c.advance-begun.new.self.core
    c.advance-begun.new.address begun c.advance-begun.new.came)) silent)
