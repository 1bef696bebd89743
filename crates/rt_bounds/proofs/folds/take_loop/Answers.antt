use Rattle.std.proofs.Common.{◌<◌, sym, subst, arith}
use Rattle.rt_judge.specs.Inside.Walks.{reached_by}
use Rattle.rt_bounds.specs.Inside.Aheads.{AreFolds}
use Rattle.rt_bounds.specs.Inside.Sources.{nowhere}
use Rattle.rt_bounds.proofs.Mapped.{has_all}
use Rattle.rt_bounds.proofs.InnersFound.{first_within, inners_more}
use Rattle.rt_bounds.proofs.Measuring.{folds_skip, folds_more, head_within, last_within}
use Rattle.rt_bounds.proofs.folds.take_loop.Goals as goal

pub measure-requires-clause-counts : goal.measure-requires-clause-counts
measure-requires-clause-counts c = c.in-Some.ensures.0

pub measure-requires-clause-folded : goal.measure-requires-clause-folded
measure-requires-clause-folded c =
    subst (λ n. AreFolds c.args.image.now c.args.owner (reached_by c.args.walk.now) n c.args.folds.now)
    (sym c.in-Some.ensures.1) c.requires.folded

pub returns-in_ok-fold-in-Some-clause-folded : goal.returns-in_ok-fold-in-Some-clause-folded
returns-in_ok-fold-in-Some-clause-folded c =
    let few = head_within c.args.image.now c.args.owner (reached_by c.args.walk.now)
    (has_all c.args.image.now c.args.owner c.args.walk.now c.requires.checked c.requires.mapped) c.in-Some.counting
    c.in-Some.ensures.0 in
    let size = c.requires.folded.size in
    folds_more c.args.image.now c.args.owner (reached_by c.args.walk.now) c.args.last c.args.folds.now
    c.requires.folded c.in-Some.counting c.in_ok-fold-in-Some.fold c.in-Some.ensures.1
    c.in_ok-fold-in-Some.ensures.fold (omega (arith, few, size))

pub returns-in-None-clause-folded : goal.returns-in-None-clause-folded
returns-in-None-clause-folded c =
    folds_skip c.args.image.now c.args.owner (reached_by c.args.walk.now) c.args.last c.args.folds.now
    c.requires.folded c.in-None.ensures

pub returns-in_ok-fold-in-Some-clause-inners : goal.returns-in_ok-fold-in-Some-clause-inners
returns-in_ok-fold-in-Some-clause-inners c =
    let mapped = has_all c.args.image.now c.args.owner c.args.walk.now c.requires.checked c.requires.mapped in
    let few = first_within c.args.image.now c.args.owner c.args.walk.now mapped c.in-Some.counting c.in-Some.ensures.0 in
    let room = c.requires.room in
    let code = c.requires.limits.code in
    let last = last_within c.args.image.now c.args.owner (reached_by c.args.walk.now) mapped c.in-Some.counting
    c.in-Some.ensures.0 in
    let small : c.in-Some.counting.place.last < nowhere = omega (arith, last, code) in
    inners_more c.args.image.now c.args.owner c.args.walk.now c.args.sources.now mapped c.requires.sources
    c.args.inners.now c.requires.inners c.in-Some.counting c.in-Some.ensures.0 (omega (arith, few, room)) small
