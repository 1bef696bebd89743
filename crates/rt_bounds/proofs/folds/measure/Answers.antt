use Rattle.std.proofs.Common.{sym, subst, ◌∙◌}
use Rattle.rt_judge.specs.Inside.Walks.{reached_by}
use Rattle.rt_bounds.specs.Inside.Aheads.{IsFold}
use Rattle.rt_bounds.proofs.Mapped.{has_all}
use Rattle.rt_bounds.proofs.Measuring.{open_stay, open_head, fold_is, begun_blank, forgotten_blank}
use Rattle.rt_bounds.proofs.Measuring.{ahead_again}
use Rattle.rt_bounds.proofs.Steps.{blank_surveyed}
use Rattle.rt_bounds.proofs.folds.measure.Goals as goal

pub up_to-requires-clause-surveyed : goal.up_to-requires-clause-surveyed
up_to-requires-clause-surveyed c =
    blank_surveyed c.args.image.now c.args.owner c.args.walk.now c.begin.new.self
    (begun_blank c.args.image.now c.args.survey.now c.begin.new.self c.args.counting.now.place.jump c.depth_there-depth.result
    c.requires.blank c.begin.ensures)

pub up_to-requires-clause-free : goal.up_to-requires-clause-free
up_to-requires-clause-free c = λ apart.
    open_stay c.args.image.now c.args.owner (reached_by c.args.walk.now)
    (has_all c.args.image.now c.args.owner c.args.walk.now c.requires.checked c.requires.mapped) c.args.counting.now
    c.requires.counts c.args.folds.now c.requires.folded c.begin.new.self.depth
    (c.begin.ensures.depth_is ∙ c.depth_there-depth.ensures) apart

pub up_to-requires-2-clause-goal : goal.up_to-requires-2-clause-goal
up_to-requires-2-clause-goal c = c.in_ok-round.ensures.goal ∙ c.begin.ensures.goal_is

pub up_to-requires-2-clause-free : goal.up_to-requires-2-clause-free
up_to-requires-2-clause-free c = λ apart.
    open_head c.args.image.now c.args.owner (reached_by c.args.walk.now)
    (has_all c.args.image.now c.args.owner c.args.walk.now c.requires.checked c.requires.mapped) c.args.counting.now
    c.requires.counts c.args.folds.now c.requires.folded c.up_to.new.survey.depth
    (c.in_ok-round.ensures.depth ∙ c.begin.ensures.depth_is ∙ c.depth_there-depth.ensures) apart

pub forget-requires : goal.forget-requires
forget-requires c = c.in_ok-front.ensures.surveyed.listed

pub returns-clause-fold : goal.returns-clause-fold
returns-clause-fold c =
    subst (IsFold c.args.image.now c.args.owner (reached_by c.args.walk.now)
    c.args.counting.now) (sym c.fold_of.ensures)
    (fold_is c.args.image.now c.args.owner (reached_by c.args.walk.now)
    (has_all c.args.image.now c.args.owner c.args.walk.now c.requires.checked c.requires.mapped) c.args.counting.now
    c.requires.counts c.depth_there-depth.result c.depth_there-depth.ensures c.in_ok-front.front c.in_ok-round.round
    (ahead_again c.args.image.now _ _ _ _ c.in_ok-front.front
    (c.in_ok-round.ensures.depth ∙ c.begin.ensures.depth_is) c.in_ok-front.ensures.longest)
    (ahead_again c.args.image.now _ _ _ _ c.in_ok-round.round c.begin.ensures.depth_is c.in_ok-round.ensures.longest))

pub returns-clause-blank : goal.returns-clause-blank
returns-clause-blank c =
    forgotten_blank c.args.image.now c.up_to-2.new.survey c.forget.new.self c.in_ok-front.ensures.surveyed.empty
    c.in_ok-front.ensures.surveyed.surveying.size c.forget.ensures
