use Rattle.std.proofs.Common.{◌<◌, ◌^◌, arith, rules}
use Rattle.rt_bounds.proofs.Constants.{all_by}
use Rattle.rt_bounds.proofs.Counted.{by_no_constant, by_no_start, by_test}
use Rattle.rt_bounds.proofs.counting.Place.turns_by_change.Goals as goal

pub overflow_add-is_not_0 : goal.overflow_add-is_not_0
overflow_add-is_not_0 c =
    let low = c.requires.jump in
    let few = c.requires.last in
    omega (arith, low, few)

pub returns-in-None : goal.returns-in-None
returns-in-None c = λ owner mapped sources loop n both.
    by_no_constant c.args.image.now owner c.args.walk.now c.args.self.now
    (all_by c.args.image.now owner c.args.walk.now sources.0 mapped) c.args.counter c.args.test _ c.args.at
    c.requires.writer loop c.args.change c.requires.change (c.in-None.ensures owner mapped sources) n both.1

pub returns-in-None-held_after : goal.returns-in-None-held_after
returns-in-None-held_after c = λ owner mapped sources loop n both.
    by_no_start c.args.image.now owner c.args.walk.now c.args.self.now
    (all_by c.args.image.now owner c.args.walk.now sources.0 mapped) c.args.counter c.args.test _ c.args.at
    c.requires.writer loop c.args.change c.requires.change (c.in-None-held_after.ensures owner sources) n both.1

pub returns-in-Some-held_after : goal.returns-in-Some-held_after
returns-in-Some-held_after c = λ owner mapped sources loop.
    let small : c.in-Some-held_after.start < 2 ^ 32 = search rules in
    by_test c.args.image.now owner c.args.walk.now c.args.self.now
    (all_by c.args.image.now owner c.args.walk.now sources.0 mapped) c.args.counter c.args.test _ c.args.at
    c.requires.writer loop c.args.change c.requires.change c.in-Some.step c.in-Some-held_after.start
    small (c.in-Some.ensures owner mapped sources) (c.in-Some-held_after.ensures owner sources) c.requires.first c.requires.once
    c.turns_of.result c.turns_of.ensures
