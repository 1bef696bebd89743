-- The lines of the priorities so far.
use Rattle.std.proofs.Common.{◌≡◌, ◌++◌, flat_map, take}
use Rattle.rt_reach.specs.Spelled.{priority_text}
use Rattle.rt_reach.proofs.text.push_others.Given as goal

abbrev pub invariant-loop-irq : goal.invariant-loop-irq
invariant-loop-irq l =
    l.text.items ≡ l.fn.text.items ++ flat_map (priority_text l.names 1) (take l.irq-index l.irqs)
