use Rattle.std.proofs.Common.{List, subst}
use Rattle.rt_points.specs.declared.point.Owner.TheVariants.{Handling}
use Rattle.rt_judge.specs.Inside.Visits.{Spot, spots_of}
use Rattle.rt_why.specs.Inside.Searches.{EndsAs, WalksClean}
use Rattle.rt_why.proofs.search.search_from_entry.Goals as goal

pub returns-in-Ended : goal.returns-in-Ended
returns-in-Ended c =
    let img = c.args.image.now in
    let owner = Handling c.args.index in
    let wanted = c.args.wanted.now in
    let from = spots_of c.in_ok-starts.starts in
    let walked : WalksClean img owner from wanted c.in-Ended.field-0 = subst (EndsAs img owner from wanted)
    c.in-Ended.is c.in_ok-walk_from.ensures in
    (_, subst (λ (s : List Spot). WalksClean img owner s wanted c.in-Ended.field-0) c.in_ok-starts.ensures.1 walked)
