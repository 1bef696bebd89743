use Rattle.rt_bounds.proofs.Constants.{all_by}
use Rattle.rt_bounds.proofs.Counted.{by_nobody, by_several}
use Rattle.rt_bounds.proofs.counting.Place.turns_by.Goals as goal

pub returns-in-Nobody : goal.returns-in-Nobody
returns-in-Nobody c = λ owner mapped sources loop n both.
    by_nobody c.args.image.now owner c.args.walk.now c.args.self.now
    (all_by c.args.image.now owner c.args.walk.now sources.0 mapped) c.args.counter c.args.test _ (c.in-Nobody.ensures c.args.image.now c.requires.written.has) n
    both.1

pub returns-in-Several : goal.returns-in-Several
returns-in-Several c = λ owner mapped sources loop n both.
    by_several c.args.image.now owner c.args.walk.now c.args.self.now
    (all_by c.args.image.now owner c.args.walk.now sources.0 mapped) c.args.counter c.args.test _ (c.in-Several.ensures c.args.image.now c.requires.written.has) n
    both.1
