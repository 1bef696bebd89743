use Rattle.std.proofs.Common.{List, sym, subst}
use Rattle.rt_points.specs.Leading.{Begins}
use Rattle.rt_points.specs.declared.point.Owner.TheVariants.{Starting}
use Rattle.rt_points.specs.Rules.{NestsInOneWay}
use Rattle.rt_judge.specs.Inside.Looks.{LooksFrom}
use Rattle.rt_judge.specs.Inside.Visits.{Spot, spots_of}
use Rattle.rt_judge.specs.Inside.Walks.{ArePoints}
use Rattle.rt_judge.proofs.Looking.{looks_thread, if_ok_weaker, kept_weaker, some_case}
use Rattle.rt_judge.proofs.verdict.look_at_thread.Goals as goal

pub walk_from-requires-clause-points : goal.walk_from-requires-clause-points
walk_from-requires-clause-points c =
    subst (λ (s : List Spot). ArePoints c.args.image.now Starting s) (sym c.in_ok-starts.ensures.1) (Begins, tt)

pub returns-in-Some : goal.returns-in-Some
returns-in-Some c =
    let img = c.args.image.now in
    let first = some_case c.in_ok-behind.field-0 c.in-Some.behind (¬ NestsInOneWay img)
    (LooksFrom img Starting (spots_of c.in_ok-starts.starts) c.args.findings.now c.walk_from.new.findings)
    c.in-Some.is c.in_ok-behind.ensures in
    if_ok_weaker c.look_behind.result _ _ (λ kept. kept_weaker kept _ _ _ (λ behind.
    looks_thread c.args.image.now c.args.findings.now c.walk_from.new.findings c.look_behind.new.findings
    (spots_of c.in_ok-starts.starts) c.in-Some.behind c.in_ok-starts.ensures.1 first behind)) c.look_behind.ensures
