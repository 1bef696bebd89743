-- The interrupts so far are resolved, and those to come have numbers that there are.
use Rattle.std.proofs.Common.{◌≡◌, map, take, drop}
use Rattle.std.specs.List.{AllByRecursion}
use Rattle.rt_ast.specs.Printable.{IsPrintableIrq}
use Rattle.rt_resolve.specs.Resolved as meant
use Rattle.rt_resolve.proofs.declared.resolve_irqs.Given as goal

abbrev pub invariant-loop-d : goal.invariant-loop-d
invariant-loop-d l = record {
  same : l.resolved.items ≡ map meant.irq (take l.d-index l.irqs);
  numbers : AllByRecursion IsPrintableIrq (drop l.d-index l.irqs);
}
