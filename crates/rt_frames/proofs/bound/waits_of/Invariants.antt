-- The waits of the priorities so far.
use Rattle.std.proofs.Common.{◌≡◌, map}
use Rattle.rt_app.specs.View.{app_of}
use Rattle.rt_ids.specs.Lists.{those_below}
use Rattle.rt_app.specs.Stack.{has_handler}
use Rattle.rt_frames.specs.Inside.Bounded.{wait_of}
use Rattle.rt_frames.proofs.bound.waits_of.Given as goal

abbrev pub invariant-loop-priority : goal.invariant-loop-priority
invariant-loop-priority l = l.waits.items ≡ map (wait_of (app_of l.app) l.measure l.ceilings)
    (those_below (has_handler (app_of l.app)) l.priority)
