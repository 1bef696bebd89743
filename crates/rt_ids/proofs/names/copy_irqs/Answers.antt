use Rattle.std.proofs.Common.{sym, ap}
use Rattle.rt_ids.specs.Names.{Names}
use Rattle.rt_ids.proofs.Lists.{taken_next}
use Rattle.rt_ids.proofs.Declared.{next_irq}
use Rattle.rt_ids.proofs.names.copy_irqs.Goals as goal

pub add_irq-requires-clause-unknown : goal.add_irq-requires-clause-unknown
add_irq-requires-clause-unknown c =
    next_irq c.loop-index.to c.loop-index.index c.in-Some.irq.0.now c.args.from.now.irqs c.in-Some.irq.1
    (ap (λ (names : Names). names.irqs) c.loop-index.invariant)
    c.irq_count-index-end.ensures.names.irqs_differ (sym c.in-Some.ensures)

pub loop-index-preserved : goal.loop-index-preserved
loop-index-preserved c =
    let more = ap (λ xs. record c.args.to.now { irqs = xs })
    (taken_next c.args.from.now.irqs c.loop-index.index (c.in-Some.irq.0.now, c.in-Some.irq.1)
    (sym c.in-Some.ensures)) in
    rw (c.in_ok-add_irq.ensures.added, c.loop-index.invariant) more
