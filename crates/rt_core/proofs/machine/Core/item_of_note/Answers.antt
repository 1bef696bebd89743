use Rattle.std.proofs.Common.{◌<◌, subst, sym}
use Rattle.rt_core.proofs.Tables.{arguments_few}
use Rattle.rt_core.proofs.machine.Core.item_of_note.Goals as goal

pub slots_from-requires : goal.slots_from-requires
slots_from-requires c = subst (λ n. n < 5) (sym c.argument_count-count.ensures)
    (arguments_few c.self.inside.program c.self.invariant.runnable c.in-Start.task)
