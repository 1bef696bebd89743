use Rattle.std.proofs.Common.{sym}
use Rattle.rt_why.proofs.NumberRows.{there_found}
use Rattle.rt_why.proofs.numbers.first_of.Goals as goal

pub unreachable-requires : goal.unreachable-requires
unreachable-requires c =
    let at = c.requires in
    there_found c.args.irqs.now c.args.index c.args.irq at.0 at.1 at.2 (sym c.in-None.ensures)
