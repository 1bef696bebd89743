-- The interrupts so far.
use Rattle.std.proofs.Common.{◌≡◌, filter_map, take}
use Rattle.rt_topx.specs.Target.{irq_called}
use Rattle.rt_topx.proofs.target.calls_of.Given as goal

abbrev pub invariant-loop-fact : goal.invariant-loop-fact
invariant-loop-fact l = l.calls.items ≡ filter_map irq_called (take l.fact-index l.facts)
