-- Those of the priorities so far.
use Rattle.std.proofs.Common.{◌≡◌, map}
use Rattle.rt_ids.specs.Lists.{or_zero, those_below}
use Rattle.rt_app.specs.Stack.{has_handler}
use Rattle.rt_app.specs.View.{app_of}
use Rattle.rt_reach.specs.Priorities.{deepest_irq}
use Rattle.rt_reach.proofs.priorities.deepest_irqs.Given as goal

abbrev pub invariant-loop-priority : goal.invariant-loop-priority
invariant-loop-priority l =
    l.irqs.items
    ≡ map (λ p. or_zero (deepest_irq (app_of l.fn.app) p)) (those_below (has_handler (app_of l.fn.app)) l.priority)
