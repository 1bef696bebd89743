use Rattle.std.proofs.Common.{List, sym, subst}
use Rattle.rt_points.specs.declared.point.Owner.TheVariants.{Handling}
use Rattle.rt_judge.specs.Inside.Visits.{Spot}
use Rattle.rt_judge.specs.Inside.Walks.{ArePoints}
use Rattle.rt_judge.specs.Inside.Looks.{LooksFrom}
use Rattle.rt_judge.proofs.Looking.{some_case, none_case, ok_true, ok_false}
use Rattle.rt_judge.proofs.verdict.look_from_entry.Goals as goal
use Rattle.rt_judge.proofs.verdict.look_from_entry.Goals.{in-Some, in-None}

pub walk_from-requires-clause-points : goal.walk_from-requires-clause-points
walk_from-requires-clause-points c =
    subst (λ (s : List Spot). ArePoints c.args.image.now (Handling c.args.index) s) (sym c.in_ok-starts.ensures.1)
    (c.requires.point, tt)

pub returns : goal.returns
returns c =
    let found = c.in_ok-walk_from.field-0 in
    let img = c.args.image.now in
    elim c.match-branch-3.branch [
      | in-Some w ↦ ok_true _ _ _ w.result-is (
        w.in-Some.field-0,
        subst (λ (s : List Spot). LooksFrom img (Handling c.args.index) s c.args.findings.now
            c.walk_from.new.findings w.in-Some.field-0) c.in_ok-starts.ensures.1
            (some_case found _ _ _ w.in-Some.is c.in_ok-walk_from.ensures),
      )
      | in-None w ↦ ok_false _ _ _ w.result-is (none_case found _ _ w.in-None.is c.in_ok-walk_from.ensures)
    ]
