use Rattle.std.proofs.Common.{◌≡◌, length, ap, rules, arith}
use Rattle.rt_code.specs.Image.{Image}
use Rattle.rt_judge.proofs.Looking.{if_ok_weaker}
use Rattle.rt_bounds.proofs.Opening.{begin_open}
use Rattle.rt_bounds.proofs.Steps.{new_surveyed}
use Rattle.rt_bounds.proofs.Taking.{begins_at}
use Rattle.rt_bounds.proofs.bounding.owners_bound.Goals as goal

pub longest_from-requires-clause-surveyed : goal.longest_from-requires-clause-surveyed
longest_from-requires-clause-surveyed c =
    let view = ap (λ (i : Image). length i.code) c.image.view_is in
    let long : c.len.result ≡ length c.image.inside.code.items = search rules in
    let size : c.len.result ≡ length c.args.image.now.code = omega (arith, long, view) in
    new_surveyed c.args.image.now c.args.owner c.args.walk.now c.len.result 0 c.in_ok-survey.survey size
    c.in_ok-survey.ensures

pub longest_from-requires-clause-free : goal.longest_from-requires-clause-free
longest_from-requires-clause-free c =
    begin_open c.args.image.now c.args.owner c.args.walk.now c.requires.checked c.requires.mapped c.args.folds.now
    c.requires.folded c.in_ok-survey.survey.depth c.args.entry c.in_ok-survey.survey.goal c.in_ok-survey.ensures.depth
    c.in_ok-survey.ensures.goal c.requires.begins c.requires.there

pub returns : goal.returns
returns c = if_ok_weaker c.longest_from.result _ _ (begins_at c.args.image.now c.args.owner c.args.walk.now c.args.entry
    c.in_ok-survey.survey.depth c.in_ok-survey.survey.goal c.in_ok-survey.ensures.depth c.in_ok-survey.ensures.goal
    c.requires.there) c.longest_from.ensures.longest
