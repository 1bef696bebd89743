use Rattle.rt_bounds.proofs.Tested.{by_first, by_second, by_neither}
use Rattle.rt_bounds.proofs.counting.Place.turns_by_comparison.Goals as goal

pub returns-in-Some : goal.returns-in-Some
returns-in-Some c = λ owner mapped sources loop slot compared.
    by_first c.args.image.now owner c.args.self.now loop c.args.sources.now sources slot c.args.comparison compared
    c.in-Some.limit (c.in-Some.ensures owner mapped sources) c.turns_by.result
    (c.turns_by.ensures owner mapped sources loop)

pub returns-in-Some-constant : goal.returns-in-Some-constant
returns-in-Some-constant c = λ owner mapped sources loop slot compared.
    by_second c.args.image.now owner c.args.self.now loop c.args.sources.now sources slot c.args.comparison compared
    (c.in-None.ensures owner mapped sources) c.in-Some-constant.limit (c.in-Some-constant.ensures owner mapped sources)
    c.turns_by-in-Some-constant.result (c.turns_by-in-Some-constant.ensures owner mapped sources loop)

pub returns-in-None-constant : goal.returns-in-None-constant
returns-in-None-constant c = λ owner mapped sources loop slot compared.
    by_neither c.args.image.now owner c.args.self.now loop c.args.sources.now sources slot c.args.comparison compared
    (c.in-None.ensures owner mapped sources) (c.in-None-constant.ensures owner mapped sources)
