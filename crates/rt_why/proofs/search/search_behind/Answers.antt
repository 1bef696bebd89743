use Rattle.std.proofs.Common.{subst}
use Rattle.rt_points.specs.declared.point.Owner.TheVariants.{Thread}
use Rattle.rt_judge.specs.Inside.Visits.{spots_of}
use Rattle.rt_why.specs.Inside.Searches.{EndsAs}
use Rattle.rt_why.proofs.search.search_behind.Goals as goal

pub returns-in-Ended : goal.returns-in-Ended
returns-in-Ended c = (
  _,
  subst (EndsAs c.args.image.now Thread (spots_of c.args.behind) c.args.wanted.now) c.in-Ended.is
      c.in_ok-walk_from.ensures,
)
