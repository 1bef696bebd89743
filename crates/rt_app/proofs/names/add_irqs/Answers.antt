use Rattle.std.proofs.Common.{ap, map, sym, subst}
use Rattle.std.proofs.lemmas.Simd.{map-map}
use Rattle.rt_lemmas.proofs.Lists.{mapped_read}
use Rattle.rt_ids.specs.Lists.{AreDifferent}
use Rattle.rt_ids.specs.Names.{Names}
use Rattle.rt_ids.proofs.Lists.{taken_next}
use Rattle.rt_ids.proofs.Declared.{next_irq}
use Rattle.rt_app.specs.declared.app.IrqDecl.{IrqDecl}
use Rattle.rt_app.proofs.names.add_irqs.Goals as goal

pub add_irq-requires-clause-unknown : goal.add_irq-requires-clause-unknown
add_irq-requires-clause-unknown c =
    let at = mapped_read (λ (d : IrqDecl). (d.name, d.number)) c.args.irqs.now c.loop-d.d-index c.d-item.result
    c.loop-d-test.true c.d-item.is in
    rw c.bytes.ensures
    (next_irq c.loop-d.names c.loop-d.d-index c.d-item.result.name
    (map (λ (d : IrqDecl). (d.name, d.number)) c.args.irqs.now) c.d-item.result.number
    (ap (λ (names : Names). names.irqs) c.loop-d.invariant)
    (subst AreDifferent (sym (map-map (λ irq. irq.0) (λ (d : IrqDecl). (d.name, d.number)) c.args.irqs.now))
    c.requires.differ) at)

pub loop-d-preserved : goal.loop-d-preserved
loop-d-preserved c =
    let at = mapped_read (λ (d : IrqDecl). (d.name, d.number)) c.args.irqs.now c.loop-d.d-index c.d-item.result
    c.loop-d-test.true c.d-item.is in
    rw (c.in_ok-add_irq.ensures.added, c.loop-d.invariant, c.bytes.ensures)
    (ap (λ xs. record c.args.names.now { irqs = xs })
    (taken_next (map (λ (d : IrqDecl). (d.name, d.number)) c.args.irqs.now) c.loop-d.d-index _ at))
