use Rattle.rt_bounds.proofs.Constants.{all_by, by_before, by_one, by_several}
use Rattle.rt_bounds.proofs.counting.Place.constant.Goals as goal

pub returns-in-Nobody : goal.returns-in-Nobody
returns-in-Nobody c = λ owner mapped sources.
    by_before c.args.image.now owner c.args.walk.now c.args.self.now
    (all_by c.args.image.now owner c.args.walk.now sources.0 mapped) c.args.address c.args.slot
    (c.in-None.ensures owner sources) c.requires.first (c.in-Nobody.ensures c.args.image.now c.requires.written.has) c.held_after.result
    (c.held_after.ensures owner sources)

pub returns-in-One : goal.returns-in-One
returns-in-One c = λ owner mapped sources.
    by_one c.args.image.now owner c.args.walk.now c.args.self.now
    (all_by c.args.image.now owner c.args.walk.now sources.0 mapped) c.args.address c.args.slot
    (c.in-None.ensures owner sources) c.in-One.field-0 (c.in-One.ensures c.args.image.now c.requires.written.has)

pub returns-in-Several : goal.returns-in-Several
returns-in-Several c = λ owner mapped sources.
    by_several c.args.image.now owner c.args.walk.now c.args.self.now
    (all_by c.args.image.now owner c.args.walk.now sources.0 mapped) c.args.address c.args.slot
    (c.in-None.ensures owner sources) (c.in-Several.ensures c.args.image.now c.requires.written.has)
