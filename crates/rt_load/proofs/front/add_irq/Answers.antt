use Rattle.rt_load.proofs.Declared.{irq_new}
use Rattle.rt_load.proofs.front.add_irq.Goals as goal

pub add_irq-requires-clause-named : goal.add_irq-requires-clause-named
add_irq-requires-clause-named c =
    let new = irq_new c.args.names.now c.args.row.name c.bytes.result.now c.bytes.ensures c.requires in new.named

pub add_irq-requires-clause-unknown : goal.add_irq-requires-clause-unknown
add_irq-requires-clause-unknown c =
    let new = irq_new c.args.names.now c.args.row.name c.bytes.result.now c.bytes.ensures c.requires in new.unknown

pub add_irq-requires-clause-room : goal.add_irq-requires-clause-room
add_irq-requires-clause-room c =
    let new = irq_new c.args.names.now c.args.row.name c.bytes.result.now c.bytes.ensures c.requires in new.below
