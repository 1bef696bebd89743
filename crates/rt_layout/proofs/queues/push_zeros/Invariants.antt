-- The cells below the number.
use Rattle.std.proofs.Common.{◌≡◌, ◌++◌}
use Rattle.rt_layout.specs.Inside.Rows.{zero_rows}
use Rattle.rt_layout.proofs.queues.push_zeros.Given as goal

abbrev pub invariant-loop-number : goal.invariant-loop-number
invariant-loop-number l = l.cells.items ≡ l.fn.cells.items ++ zero_rows l.front l.number
