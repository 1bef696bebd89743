-- The text so far is that of the items so far.
use Rattle.std.proofs.Common.{◌≡◌, ◌++◌, flat_map, take}
use Rattle.rt_report.specs.Report.{ready_line}
use Rattle.rt_report.proofs.ceilings.push_ready.Given as goal

abbrev pub invariant-loop-row : goal.invariant-loop-row
invariant-loop-row l = l.out.items ≡ l.fn.out.items ++ flat_map ready_line (take l.row-index l.ready)
