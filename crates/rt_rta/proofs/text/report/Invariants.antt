-- The lines of the rows so far.
use Rattle.std.proofs.Common.{◌≡◌, flat_map, take}
use Rattle.rt_rta.specs.Report.{line}
use Rattle.rt_rta.proofs.text.report.Given as goal

abbrev pub invariant-loop-row : goal.invariant-loop-row
invariant-loop-row l = l.out.items ≡ flat_map line (take l.row-index l.rows)
