use Rattle.std.proofs.Common.{◌<◌, length, arith}
use Rattle.rt_topx.proofs.Reading.{more_calls}
use Rattle.rt_topx.proofs.target.calls_of.Goals as goal

pub loop-fact-preserved : goal.loop-fact-preserved
loop-fact-preserved c =
    let below : c.loop-fact.fact-index < length c.args.facts.now = omega arith in
    let more = more_calls c.args.facts.now c.loop-fact.fact-index c.fact-item.result below in
    cc (c.in_ok-push_irq.ensures, c.loop-fact.invariant, c.irq_called.ensures, c.fact-item.is)
