use Rattle.std.proofs.Common.{List, sym, subst}
use Rattle.rt_points.specs.Leading.{Begins}
use Rattle.rt_points.specs.declared.point.Owner.TheVariants.{Starting}
use Rattle.rt_judge.specs.Inside.Visits.{Spot, spots_of}
use Rattle.rt_judge.specs.Inside.Walks.{ArePoints}
use Rattle.rt_judge.proofs.Looking.{if_ok_weaker}
use Rattle.rt_why.specs.Inside.Searches.{EndsAs, WalksClean}
use Rattle.rt_why.proofs.Clearing.{cleared_thread, finds_weaker}
use Rattle.rt_why.proofs.search.search_thread.Goals as goal

pub walk_from-requires-clause-points : goal.walk_from-requires-clause-points
walk_from-requires-clause-points c =
    subst (λ (s : List Spot). ArePoints c.args.image.now Starting s) (sym c.in_ok-starts.ensures.1) (Begins, tt)

pub returns-in-Ended : goal.returns-in-Ended
returns-in-Ended c =
    let img = c.args.image.now in
    let wanted = c.args.wanted.now in
    let from = spots_of c.in_ok-starts.starts in
    let first : WalksClean img Starting from wanted c.in-Ended.behind = subst (EndsAs img Starting from wanted)
    c.in-Ended.is c.in_ok-behind.ensures in
    if_ok_weaker c.search_behind.result _ _ (λ found. finds_weaker img wanted _ _ found (λ behind.
    cleared_thread img wanted from c.in-Ended.behind c.in_ok-starts.ensures.1 first behind)) c.search_behind.ensures
