use Rattle.std.proofs.Common.{length}
use Rattle.rt_lines.specs.Inside.Progress.{Progress}
use Rattle.rt_load.specs.Inside.Reader.{listing_reader}
use Rattle.rt_load.proofs.loading.load.Given as goal

-- the lines so far lead to the front
abbrev pub invariant-loop-line : goal.invariant-loop-line
invariant-loop-line l = Progress listing_reader l.bytes l.rest l.number l.front

abbrev pub decreases-loop-line : goal.decreases-loop-line
decreases-loop-line l = length l.rest
