use Rattle.std.proofs.Common.{length}
use Rattle.rt_lines.specs.Inside.Progress.{Progress}
use Rattle.rt_image_times.specs.Text.{image_limits_reader}
use Rattle.rt_image_times.proofs.reading.read_image_limits.Given as goal

-- the lines so far tell the limits so far
abbrev pub invariant-loop-rest : goal.invariant-loop-rest
invariant-loop-rest l = Progress (image_limits_reader l.image) l.bytes l.rest l.number l.limits

abbrev pub decreases-loop-rest : goal.decreases-loop-rest
decreases-loop-rest l = length l.rest
