use Rattle.std.proofs.Common.{◌<◌, length, arith}
use Rattle.rt_app.specs.View.{app_of}
use Rattle.rt_topx.proofs.Reading.{more_inputs}
use Rattle.rt_topx.proofs.target.inputs_of.Goals as goal

pub loop-fact-preserved : goal.loop-fact-preserved
loop-fact-preserved c =
    let below : c.loop-fact.fact-index < length c.args.facts.now = omega arith in
    let more =
    more_inputs (app_of c.args.app.now) c.args.board.now c.args.facts.now c.loop-fact.fact-index c.fact-item.result
    below in
    cc (c.in_ok-push_some.ensures, c.loop-fact.invariant, c.input_read.ensures, c.fact-item.is)
