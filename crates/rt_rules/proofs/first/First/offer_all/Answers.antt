use Rattle.rt_rules.proofs.Fold.{one_more_taken}
use Rattle.rt_rules.proofs.first.First.offer_all.Goals as goal

pub loop-violation-preserved : goal.loop-violation-preserved
loop-violation-preserved c = one_more_taken c.args.self.now c.loop-violation.self c.offer.new.self c.args.violations.now
    c.loop-violation.violation-index _ c.loop-violation-test.true c.loop-violation.invariant c.offer.ensures
