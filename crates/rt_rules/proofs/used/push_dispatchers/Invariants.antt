-- The uses so far are those of the dispatchers so far.
use Rattle.std.proofs.Common.{◌≡◌, ◌++◌, flat_map, take}
use Rattle.rt_app.specs.Declarations.{use_of}
use Rattle.rt_rules.proofs.used.push_dispatchers.Given as goal

abbrev pub invariant-loop-dispatcher : goal.invariant-loop-dispatcher
invariant-loop-dispatcher l = l.uses.items ≡ l.fn.uses.items ++ flat_map (λ d. use_of d.irq d.at)
    (take l.dispatcher-index l.dispatchers)
