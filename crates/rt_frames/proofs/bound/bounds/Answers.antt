use Rattle.std.proofs.Common.{◌∙◌}
use Rattle.rt_app.specs.View.{app_of}
use Rattle.rt_app.specs.Stack.{handler_priorities}
use Rattle.rt_frames.proofs.Sections.{waits_are}
use Rattle.rt_frames.proofs.Within.{bounds_are}
use Rattle.rt_frames.proofs.bound.bounds.Goals as goal

pub returns : goal.returns
returns c =
    let app = app_of c.args.app.now in
    bounds_are app c.cost_of_armed-measure.result c.in_ok-bodies.bodies.items c.in_ok-waits.waits.items
    c.thread_words.result c.stack_bytes.result c.requires.limits c.cost_of_armed-measure.ensures
    c.in_ok-bodies.ensures
    (c.in_ok-waits.ensures ∙ waits_are app c.cost_of_armed-measure.result c.args.ceil.now
    c.handler_flags-handlers.result c.cost_of_armed-measure.ensures c.requires.ceilings
    c.handler_flags-handlers.ensures c.requires.sound (handler_priorities app)) c.thread_words.ensures
    c.stack_bytes.ensures
