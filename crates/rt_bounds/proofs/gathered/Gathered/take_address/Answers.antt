use Rattle.std.proofs.Common.{List, map, ap, ◌∙◌}
use Rattle.rt_bounds.specs.declared.bound.WaitBound.{WaitBound}
use Rattle.rt_bounds.proofs.Opening.{enter_open}
use Rattle.rt_bounds.proofs.Taking.{take_more, take_skip, priorities_held, bound_at}
use Rattle.rt_bounds.proofs.gathered.Gathered.take_address.Goals as goal

pub longest_from-requires-clause-free : goal.longest_from-requires-clause-free
longest_from-requires-clause-free c =
    enter_open c.args.image.now c.args.owner c.args.walk.now c.requires.checked c.requires.mapped c.args.folds.now
    c.requires.folded c.args.survey.now.depth c.args.depth c.args.address c.args.survey.now.goal c.in-Some.entry
    c.requires.depth c.requires.goal c.in-Some.ensures

pub returns-in_ok-take-in-Some-clause-gathered : goal.returns-in_ok-take-in-Some-clause-gathered
returns-in_ok-take-in-Some-clause-gathered c =
    λ done. take_more c.args.image.now c.args.owner c.args.walk.now c.requires.checked c.requires.mapped c.args.depth
    c.args.address done c.args.self.now c.take.new.self c.in-Some.entry c.in_ok-longest-in-Some.longest
    c.in-Some.ensures (bound_at _ _ _ _ _ _ c.requires.depth c.requires.goal
    c.in_ok-longest-in-Some.ensures.longest)
    c.in_ok-take-in-Some.ensures.own c.in_ok-take-in-Some.ensures.waits

pub returns-in-None-clause-gathered : goal.returns-in-None-clause-gathered
returns-in-None-clause-gathered c =
    λ done. take_skip c.args.image.now c.args.owner c.args.walk.now c.requires.checked c.requires.mapped c.args.depth
    c.args.address done c.args.self.now c.in-None.ensures

pub returns-in_ok-take-in-Some-clause-priorities : goal.returns-in_ok-take-in-Some-clause-priorities
returns-in_ok-take-in-Some-clause-priorities c =
    ap (λ (rows : List WaitBound). map (λ (row : WaitBound). row.priority) rows) c.in_ok-take-in-Some.ensures.waits
    ∙ priorities_held c.args.image.now.bits c.in-Some.entry c.in_ok-longest-in-Some.longest
    c.args.self.now.waits.items
