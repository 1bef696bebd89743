use Rattle.std.proofs.Common.{length}
use Rattle.rt_lines.specs.Inside.Progress.{Progress}
use Rattle.rt_app.specs.View.{app_of}
use Rattle.rt_respond.specs.Text.{limits_reader}
use Rattle.rt_respond.proofs.reading.read_limits.Given as goal

-- the lines so far say the limits so far
abbrev pub invariant-loop-rest : goal.invariant-loop-rest
invariant-loop-rest l = Progress (limits_reader (app_of l.app)) l.bytes l.rest l.number l.limits

abbrev pub decreases-loop-rest : goal.decreases-loop-rest
decreases-loop-rest l = length l.rest
