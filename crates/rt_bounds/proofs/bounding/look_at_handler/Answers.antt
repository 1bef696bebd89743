use Rattle.std.proofs.Common.{List, length, refl, sym, subst, ◌∙◌}
use Rattle.rt_points.specs.Leading.{Enters}
use Rattle.rt_points.specs.declared.point.Owner.TheVariants.{Handling}
use Rattle.rt_points.specs.declared.rule.Rule.TheVariants as rule
use Rattle.rt_judge.specs.Inside.Visits.{Spot, spots_of}
use Rattle.rt_judge.specs.Inside.Walks.{ArePoints, reached_by}
use Rattle.rt_bounds.specs.Inside.Aheads.{AreFolds}
use Rattle.rt_bounds.proofs.Begins.{one_start, handler_begins}
use Rattle.rt_bounds.proofs.Mapped.{handler_mapped, begun_at}
use Rattle.rt_bounds.proofs.bounding.look_at_handler.Goals as goal

pub walk_from-requires-clause-nests : goal.walk_from-requires-clause-nests
walk_from-requires-clause-nests c = c.requires.checked rule.Nesting

pub walk_from-requires-clause-points : goal.walk_from-requires-clause-points
walk_from-requires-clause-points c =
    subst (λ (s : List Spot). ArePoints c.args.image.now (Handling c.args.index) s) (sym c.in_ok-starts.ensures.1)
    (Enters c.args.index c.args.handler c.requires.enabled, tt)

pub owners_bound-requires-clause-mapped : goal.owners_bound-requires-clause-mapped
owners_bound-requires-clause-mapped c =
    handler_mapped c.args.image.now c.args.index c.args.handler (spots_of c.in_ok-starts.starts) c.in_ok-walk.walk
    c.requires.enabled c.in_ok-starts.ensures.1 c.in_ok-walk.ensures

pub folds_from-requires-clause-mapped : goal.folds_from-requires-clause-mapped
folds_from-requires-clause-mapped c =
    handler_mapped c.args.image.now c.args.index c.args.handler (spots_of c.in_ok-starts.starts) c.in_ok-walk.walk
    c.requires.enabled c.in_ok-starts.ensures.1 c.in_ok-walk.ensures

pub folds_from-requires-clause-starts : goal.folds_from-requires-clause-starts
folds_from-requires-clause-starts c =
    one_start c.args.image.now (Handling c.args.index) c.args.handler.entry c.deref.result.now
    (c.deref.ensures.value ∙ c.in_ok-begins.ensures) (λ e. cc)
    (handler_begins c.args.image.now c.args.index c.args.handler c.requires.enabled)
    (c.args.handler, c.requires.enabled, refl)

pub owners_bound-requires-clause-begins : goal.owners_bound-requires-clause-begins
owners_bound-requires-clause-begins c = (c.args.handler, c.requires.enabled, refl)

pub owners_bound-requires-clause-there : goal.owners_bound-requires-clause-there
owners_bound-requires-clause-there c =
    begun_at c.args.image.now (Handling c.args.index) c.args.handler.entry (spots_of c.in_ok-starts.starts)
    c.in_ok-walk.walk c.in_ok-starts.ensures.1 c.in_ok-walk.ensures

pub take_owner-requires-clause-mapped : goal.take_owner-requires-clause-mapped
take_owner-requires-clause-mapped c =
    handler_mapped c.args.image.now c.args.index c.args.handler (spots_of c.in_ok-starts.starts) c.in_ok-walk.walk
    c.requires.enabled c.in_ok-starts.ensures.1 c.in_ok-walk.ensures

pub owners_bound-requires-clause-folded : goal.owners_bound-requires-clause-folded
owners_bound-requires-clause-folded c =
    subst (AreFolds c.args.image.now (Handling c.args.index) (reached_by c.in_ok-walk.walk)
    (length c.args.image.now.code)) (sym c.deref-2.ensures.value) c.in_ok-folds.ensures

pub take_owner-requires-clause-folded : goal.take_owner-requires-clause-folded
take_owner-requires-clause-folded c =
    subst (AreFolds c.args.image.now (Handling c.args.index) (reached_by c.in_ok-walk.walk)
    (length c.args.image.now.code)) (sym c.deref-3.ensures.value) c.in_ok-folds.ensures
