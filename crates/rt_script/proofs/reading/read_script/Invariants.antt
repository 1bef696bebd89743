use Rattle.std.proofs.Common.{length}
use Rattle.rt_lines.specs.Inside.Progress.{Progress}
use Rattle.rt_script.specs.Text.{script_reader}
use Rattle.rt_script.proofs.reading.read_script.Given as goal

-- the lines so far ask for the script so far
abbrev pub invariant-loop-rest : goal.invariant-loop-rest
invariant-loop-rest l = Progress (script_reader l.names) l.bytes l.rest l.number l.script

abbrev pub decreases-loop-rest : goal.decreases-loop-rest
decreases-loop-rest l = length l.rest
