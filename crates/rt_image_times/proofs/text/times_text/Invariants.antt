-- The lines of the rows so far.
use Rattle.std.proofs.Common.{◌≡◌, flat_map, take}
use Rattle.rt_image_times.specs.Report.{time_line}
use Rattle.rt_image_times.proofs.text.times_text.Given as goal

abbrev pub invariant-loop-row : goal.invariant-loop-row
invariant-loop-row l = l.out.items ≡ flat_map time_line (take l.row-index l.rows)
