use Rattle.std.proofs.Common.{◌≡◌, map, take}
use Rattle.rt_app.proofs.names.add_irqs.Given as goal

abbrev pub invariant-loop-d : goal.invariant-loop-d
invariant-loop-d l = l.names ≡ record l.initial.names { irqs = take l.d-index (map (λ d. (d.name, d.number)) l.irqs) }
