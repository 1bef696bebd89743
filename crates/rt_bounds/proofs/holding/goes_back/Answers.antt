use Rattle.std.proofs.Common.{subst}
use Rattle.rt_bounds.specs.Inside.Holdings.{IsWritingAt}
use Rattle.rt_bounds.specs.declared.holding.Writing.{Writing}
use Rattle.rt_bounds.proofs.Holdings.{goes}
use Rattle.rt_bounds.proofs.holding.goes_back.Goals as goal

pub returns-then-address-gt0-clause-back : goal.returns-then-address-gt0-clause-back
returns-then-address-gt0-clause-back c = λ owner sources.
    goes c.args.image.now owner c.args.sources.now sources c.args.address c.args.slot c.if-address-gt0.true
    (subst (λ (w : Writing). IsWritingAt c.args.image.now c.args.address c.args.slot w) c.in-Keeps.is c.write_at.ensures)
    c.is_only_from.result c.is_only_from.ensures
