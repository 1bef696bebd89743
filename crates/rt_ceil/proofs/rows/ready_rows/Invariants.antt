-- The ceilings of the levels so far.
use Rattle.std.proofs.Common.{◌≡◌}
use Rattle.rt_ceil.specs.Inside.Rows as rows
use Rattle.rt_ceil.proofs.rows.ready_rows.Given as goal

abbrev pub invariant-loop-level : goal.invariant-loop-level
invariant-loop-level l = l.ready.items ≡ rows.ready_rows l.served l.table l.level
