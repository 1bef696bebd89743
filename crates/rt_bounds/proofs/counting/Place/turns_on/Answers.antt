use Rattle.std.proofs.Common.{arith}
use Rattle.rt_bounds.proofs.Tested.{by_itself}
use Rattle.rt_bounds.proofs.counting.Place.turns_on.Goals as goal

pub turns_by_comparison-requires-clause-behind : goal.turns_by_comparison-requires-clause-behind
turns_by_comparison-requires-clause-behind c = let next = c.in-Some.ensures.next in omega (arith, next)

pub returns-in-Some : goal.returns-in-Some
returns-in-Some c = λ owner mapped sources loop.
    c.turns_by_comparison.ensures owner mapped sources loop c.args.slot c.in-Some.ensures

pub returns-in-None : goal.returns-in-None
returns-in-None c = λ owner mapped sources loop.
    by_itself c.args.image.now owner c.args.self.now loop c.args.sources.now sources c.args.slot c.in-None.ensures
    c.turns_by.result (c.turns_by.ensures owner mapped sources loop)
