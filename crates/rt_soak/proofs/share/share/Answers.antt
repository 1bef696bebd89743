use Rattle.std.proofs.Common.{◌+◌, arith}
use Rattle.rt_soak.proofs.Sharing.{shares_rise, shares_within}
use Rattle.rt_soak.proofs.share.share.Goals as goal

pub runs_between-requires-clause-rising : goal.runs_between-requires-clause-rising
runs_between-requires-clause-rising c =
    omega (
      arith,
      c.first_of-first.ensures,
      c.first_of-end.ensures,
      shares_rise c.args.plan.count c.args.plan.workers c.args.worker (omega arith),
    )

pub runs_between-requires-clause-few : goal.runs_between-requires-clause-few
runs_between-requires-clause-few c =
    omega (
      arith,
      c.first_of-end.ensures,
      shares_within c.args.plan.count c.args.plan.workers (c.args.worker + 1) (omega arith),
    )
