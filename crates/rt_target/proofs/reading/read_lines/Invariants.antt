use Rattle.std.proofs.Common.{length}
use Rattle.rt_lines.specs.Inside.Progress.{Progress}
use Rattle.rt_app.specs.View.{app_of}
use Rattle.rt_target.specs.Reading.{setup_reader}
use Rattle.rt_target.proofs.reading.read_lines.Given as goal

-- the lines so far tell what is told so far
abbrev pub invariant-loop-rest : goal.invariant-loop-rest
invariant-loop-rest l = Progress (setup_reader (app_of l.app)) l.bytes l.rest l.number l.setup

abbrev pub decreases-loop-rest : goal.decreases-loop-rest
decreases-loop-rest l = length l.rest
