use Rattle.std.proofs.Common.{arith}
use Rattle.rt_app.specs.View.{app_of}
use Rattle.rt_baker.proofs.Verdicts.{judged_all, verdict_of}
use Rattle.rt_baker.proofs.judging.judge_trace.Goals as goal

pub returns : goal.returns
returns c =
    let app = app_of c.args.machine.now.code.now.app.now in
    let items = c.items-items.result.now in
    verdict_of app c.args.trace.now items c.total.result c.verdict.result c.items-items.ensures c.total.ensures
    (c.verdict.ensures items
    (judged_all app items c.loop-item.item-index c.loop-item.judge (omega arith) c.loop-item.invariant))
