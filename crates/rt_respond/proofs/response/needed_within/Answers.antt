use Rattle.std.proofs.Common.{sym}
use Rattle.rt_respond.proofs.Demand.{needed_is}
use Rattle.rt_respond.proofs.response.needed_within.Goals as goal

pub returns : goal.returns
returns c = λ app what asked.
    sym (needed_is app c.args.asked.now.limits.now what c.args.asked.now.this.now c.args.steps
    c.args.asked.now.backlog c.demand.result c.plus.result c.plus.ensures asked.backlog_is
    (c.demand.ensures app what asked))
