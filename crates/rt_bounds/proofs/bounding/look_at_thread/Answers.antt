use Rattle.std.proofs.Common.{List, [], ◌∷◌, length, refl, sym, subst, ◌∙◌, arith}
use Rattle.rt_points.specs.Leading.{Begins}
use Rattle.rt_points.specs.declared.point.Owner.TheVariants.{Starting, Thread}
use Rattle.rt_points.specs.declared.rule.Rule.TheVariants as rule
use Rattle.rt_judge.specs.Inside.Visits.{Spot, spots_of}
use Rattle.rt_judge.specs.Inside.Walks.{ArePoints, reached_by}
use Rattle.rt_bounds.specs.Inside.Aheads.{AreFolds}
use Rattle.rt_bounds.specs.Inside.Sources.{AreStarts}
use Rattle.rt_bounds.proofs.Begins.{one_start, starting_begins}
use Rattle.rt_bounds.proofs.Mapped.{starting_mapped, thread_mapped, begun_at}
use Rattle.rt_bounds.proofs.Taking.{priorities_stay}
use Rattle.rt_bounds.proofs.bounding.look_at_thread.Goals as goal

pub walk_from-requires-clause-nests : goal.walk_from-requires-clause-nests
walk_from-requires-clause-nests c = c.requires.checked rule.Nesting

pub walk_from-requires-clause-points : goal.walk_from-requires-clause-points
walk_from-requires-clause-points c =
    subst (λ (s : List Spot). ArePoints c.args.image.now Starting s) (sym c.in_ok-starts.ensures.1) (Begins, tt)

pub owners_bound-requires-clause-mapped : goal.owners_bound-requires-clause-mapped
owners_bound-requires-clause-mapped c =
    starting_mapped c.args.image.now (spots_of c.in_ok-starts.starts) c.in_ok-walk.walk c.in_ok-starts.ensures.1
    c.in_ok-walk.ensures

pub folds_from-requires-clause-mapped : goal.folds_from-requires-clause-mapped
folds_from-requires-clause-mapped c =
    starting_mapped c.args.image.now (spots_of c.in_ok-starts.starts) c.in_ok-walk.walk c.in_ok-starts.ensures.1
    c.in_ok-walk.ensures

pub folds_from-requires-clause-starts : goal.folds_from-requires-clause-starts
folds_from-requires-clause-starts c =
    one_start c.args.image.now Starting 0 c.deref.result.now (c.deref.ensures.value ∙ c.in_ok-begins.ensures) (λ e. cc)
    (starting_begins c.args.image.now) refl

pub thread_starts-requires-clause-mapped : goal.thread_starts-requires-clause-mapped
thread_starts-requires-clause-mapped c =
    starting_mapped c.args.image.now (spots_of c.in_ok-starts.starts) c.in_ok-walk.walk c.in_ok-starts.ensures.1
    c.in_ok-walk.ensures

pub folds_from-requires-2-clause-mapped : goal.folds_from-requires-2-clause-mapped
folds_from-requires-2-clause-mapped c =
    thread_mapped c.args.image.now (spots_of c.in_ok-starts.starts) c.in_ok-walk.walk c.in_ok-other.other
    c.in_ok-starts.ensures.1 c.in_ok-walk.ensures c.in_ok-other.ensures

pub folds_from-requires-2-clause-starts : goal.folds_from-requires-2-clause-starts
folds_from-requires-2-clause-starts c =
    subst (AreStarts c.args.image.now Thread) (sym c.deref-4.ensures.value) c.in_ok-behind.ensures

pub owners_bound-requires-clause-begins : goal.owners_bound-requires-clause-begins
owners_bound-requires-clause-begins c = refl

pub owners_bound-requires-clause-there : goal.owners_bound-requires-clause-there
owners_bound-requires-clause-there c =
    begun_at c.args.image.now Starting 0 (spots_of c.in_ok-starts.starts) c.in_ok-walk.walk c.in_ok-starts.ensures.1
    c.in_ok-walk.ensures

pub take_owner-requires-clause-mapped : goal.take_owner-requires-clause-mapped
take_owner-requires-clause-mapped c =
    starting_mapped c.args.image.now (spots_of c.in_ok-starts.starts) c.in_ok-walk.walk c.in_ok-starts.ensures.1
    c.in_ok-walk.ensures

pub walk_from-requires-2-clause-nests : goal.walk_from-requires-2-clause-nests
walk_from-requires-2-clause-nests c = c.requires.checked rule.Nesting

pub take_owner-requires-2-clause-mapped : goal.take_owner-requires-2-clause-mapped
take_owner-requires-2-clause-mapped c =
    thread_mapped c.args.image.now (spots_of c.in_ok-starts.starts) c.in_ok-walk.walk c.in_ok-other.other
    c.in_ok-starts.ensures.1 c.in_ok-walk.ensures c.in_ok-other.ensures

pub take_owner-requires-2-clause-priorities : goal.take_owner-requires-2-clause-priorities
take_owner-requires-2-clause-priorities c =
    priorities_stay c.args.image.now.bits c.args.gathered.now.waits.items c.take_owner.new.self.waits.items
    c.in_ok-take_owner.ensures.priorities c.requires.priorities

pub returns-clause-gathered : goal.returns-clause-gathered
returns-clause-gathered c = λ first. c.in_ok-take_owner-2.ensures.gathered (Starting ∷ []) (omega arith, tt)
    (c.in_ok-take_owner.ensures.gathered [] tt first)

pub owners_bound-requires-clause-folded : goal.owners_bound-requires-clause-folded
owners_bound-requires-clause-folded c =
    subst (AreFolds c.args.image.now Starting (reached_by c.in_ok-walk.walk) (length c.args.image.now.code))
    (sym c.deref-2.ensures.value) c.in_ok-folds.ensures

pub take_owner-requires-clause-folded : goal.take_owner-requires-clause-folded
take_owner-requires-clause-folded c =
    subst (AreFolds c.args.image.now Starting (reached_by c.in_ok-walk.walk) (length c.args.image.now.code))
    (sym c.deref-3.ensures.value) c.in_ok-folds.ensures

pub take_owner-requires-2-clause-folded : goal.take_owner-requires-2-clause-folded
take_owner-requires-2-clause-folded c =
    subst (AreFolds c.args.image.now Thread (reached_by c.in_ok-other.other) (length c.args.image.now.code))
    (sym c.deref-5.ensures.value) c.in_ok-loops.ensures
