use Rattle.std.proofs.Common.{ap, sym, ◌∙◌, map, take}
use Rattle.rt_respond.specs.Number.{plus, total_of}
use Rattle.rt_respond.specs.Response.{limit_demand}
use Rattle.rt_respond.proofs.Demand.{total_more}
use Rattle.rt_respond.proofs.response.demand.Goals as goal

pub loop-limit-preserved : goal.loop-limit-preserved
loop-limit-preserved c = λ app what asked.
    let of = limit_demand app c.args.asked.now.limits.now what c.args.asked.now.this.now c.args.steps in
    let front = take c.loop-limit.limit-index c.args.asked.now.limits.now in
    c.plus-sum.ensures ∙ ap (λ sum. plus sum c.limit_demand.result) (c.loop-limit.invariant app what asked)
    ∙ ap (plus (total_of (map of front))) (c.limit_demand.ensures app what asked)
    ∙ sym (total_more of c.args.asked.now.limits.now c.loop-limit.limit-index c.limit-item.result
    c.loop-limit-test.true c.limit-item.is)
