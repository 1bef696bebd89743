use Rattle.std.proofs.Common.{◌≡◌, length}
use Rattle.rt_code.specs.Tables.{arguments_in}
use Rattle.rt_image_tables.specs.Inside.Found.{IsTable}
use Rattle.rt_image_tables.proofs.tables.argument_counts.Given as goal

abbrev pub invariant-loop-task : goal.invariant-loop-task
invariant-loop-task l =
    (length l.table.items ≡ l.task) × IsTable (arguments_in l.bodies) l.task l.table.items
