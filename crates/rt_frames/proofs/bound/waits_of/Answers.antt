use Rattle.rt_app.specs.View.{app_of}
use Rattle.rt_app.specs.Stack.{has_handler}
use Rattle.rt_frames.specs.Inside.Bounded.{wait_of}
use Rattle.rt_frames.proofs.Below.{map_below_none, map_below_more}
use Rattle.rt_frames.proofs.bound.waits_of.Goals as goal

pub loop-priority-init : goal.loop-priority-init
loop-priority-init c = map_below_none (wait_of (app_of c.args.app.now) c.args.measure.now c.args.ceilings.now)
    (has_handler (app_of c.args.app.now)) c.new-waits.result.items c.new-waits.ensures.items

pub loop-priority-preserved : goal.loop-priority-preserved
loop-priority-preserved c =
    map_below_more (wait_of (app_of c.args.app.now) c.args.measure.now c.args.ceilings.now)
    (has_handler (app_of c.args.app.now)) c.args.handlers.now c.requires.handled c.loop-priority.priority
    c.from.result c.loop-priority.waits.items
    c.push_wait.new.waits.items c.from.ensures c.loop-priority.invariant c.in_ok-push_wait.ensures
