use Rattle.std.proofs.Common.{◌≡◌, length}
use Rattle.rt_code.specs.Tables.{handler_in}
use Rattle.rt_image_tables.specs.Inside.Found.{IsTable}
use Rattle.rt_image_tables.proofs.tables.handlers.Given as goal

abbrev pub invariant-loop-number : goal.invariant-loop-number
invariant-loop-number l =
    (length l.table.items ≡ l.number) × IsTable (handler_in l.irqs) l.number l.table.items
