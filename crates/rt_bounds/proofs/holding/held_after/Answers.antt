use Rattle.rt_bounds.specs.Inside.Sources.{GoesBack}
use Rattle.rt_bounds.proofs.Holdings.{alike_back, found, did, did_not}
use Rattle.rt_bounds.proofs.holding.held_after.Goals as goal

pub loop-at-preserved : goal.loop-at-preserved
loop-at-preserved c = λ owner sources.
    alike_back c.args.image.now owner c.args.slot c.loop-at.at c.args.address
    (did (GoesBack c.args.image.now owner c.args.slot c.loop-at.at) c.goes_back.result
    c.loop-at-test.true (c.goes_back.ensures.back owner sources))
    (c.loop-at.invariant owner sources)

pub returns : goal.returns
returns c = λ owner sources.
    found c.args.image.now owner c.args.slot c.loop-at.at c.args.address
    (did_not (GoesBack c.args.image.now owner c.args.slot c.loop-at.at) c.goes_back.result
    c.loop-at-test.false (c.goes_back.ensures.back owner sources))
    (c.loop-at.invariant owner sources) c.set_at.result c.set_at.ensures
