use Rattle.std.proofs.Common.{◌≡◌, map, take}
use Rattle.rt_soak.proofs.soaking.numbers_of.Given as goal

abbrev pub invariant-loop-irq : goal.invariant-loop-irq
invariant-loop-irq l = l.numbers.items ≡ map (λ d. d.number) (take l.irq-index l.irqs)
