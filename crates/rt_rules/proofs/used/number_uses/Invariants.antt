-- The uses so far are those of the interrupts so far.
use Rattle.std.proofs.Common.{◌≡◌, map, take}
use Rattle.rt_rules.proofs.used.number_uses.Given as goal

abbrev pub invariant-loop-irq : goal.invariant-loop-irq
invariant-loop-irq l = l.uses.items ≡ map (λ d. record { number = d.number; at = d.number_at })
    (take l.irq-index l.irq-items)
