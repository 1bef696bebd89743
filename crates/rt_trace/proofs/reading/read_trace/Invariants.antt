use Rattle.std.proofs.Common.{length}
use Rattle.rt_lines.specs.Inside.Progress.{Progress}
use Rattle.rt_trace.specs.Reader.{standing}
use Rattle.rt_trace.specs.Reading.{trace_reader}
use Rattle.rt_trace.proofs.reading.read_trace.Given as goal

-- the lines so far lead to where the reader stands, with these items
abbrev pub invariant-loop-rest : goal.invariant-loop-rest
invariant-loop-rest l = Progress (trace_reader l.names) l.bytes l.rest l.count (standing l.reader l.items.items)

abbrev pub decreases-loop-rest : goal.decreases-loop-rest
decreases-loop-rest l = length l.rest
