use Rattle.rt_bounds.proofs.Constants.{all_by}
use Rattle.rt_bounds.proofs.Counted.{by_no_change, by_not_once}
use Rattle.rt_bounds.proofs.counting.Place.turns_by_line.Goals as goal

pub returns-in-None : goal.returns-in-None
returns-in-None c = λ owner mapped sources loop n both.
    by_no_change c.args.image.now owner c.args.walk.now c.args.self.now
    (all_by c.args.image.now owner c.args.walk.now sources.0 mapped) c.args.counter c.args.test _ c.args.at
    c.requires.writer c.in-None.ensures n both.1

pub returns-else-is_once : goal.returns-else-is_once
returns-else-is_once c = λ owner mapped sources loop n both.
    by_not_once c.args.image.now owner c.args.walk.now c.args.self.now
    (all_by c.args.image.now owner c.args.walk.now sources.0 mapped) c.args.counter c.args.test _ c.args.at
    c.requires.writer loop c.in-Some.change c.in-Some.ensures c.if-is_once.ensures n both.1
