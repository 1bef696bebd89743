use Rattle.std.proofs.Common.{length}
use Rattle.rt_lines.specs.Inside.Progress.{Progress}
use Rattle.rt_app.specs.View.{app_of}
use Rattle.rt_given.specs.Reading.{given_reader}
use Rattle.rt_given.proofs.reading.read_given.Given as goal

-- the lines so far tell the script so far
abbrev pub invariant-loop-rest : goal.invariant-loop-rest
invariant-loop-rest l = Progress (given_reader l.names (app_of l.app) l.board) l.bytes l.rest l.number l.script

abbrev pub decreases-loop-rest : goal.decreases-loop-rest
decreases-loop-rest l = length l.rest
