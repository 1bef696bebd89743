use Rattle.std.proofs.Common.{ap, ◌∙◌}
use Rattle.rt_actions.specs.Content.{Armed, lesser}
use Rattle.rt_baker_work.proofs.Timing.{least_more}
use Rattle.rt_baker_work.proofs.timer.least_instant.Goals as goal

pub loop-message-preserved : goal.loop-message-preserved
loop-message-preserved c =
    least_more c.args.armed.now c.loop-message.message-index c.message-item.result c.loop-message.least
    c.lesser.result c.loop-message-test.true c.message-item.is c.loop-message.invariant
    (c.lesser.ensures ∙ ap (λ (a : Armed). lesser a.instant c.loop-message.least) c.message.view_is)
