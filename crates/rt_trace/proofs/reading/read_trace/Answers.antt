use Rattle.rt_lines.proofs.Reading.{line_more}
use Rattle.rt_trace.specs.Reading.{trace_reader}
use Rattle.rt_trace.proofs.reading.read_trace.Goals as goal

pub loop-rest-preserved : goal.loop-rest-preserved
loop-rest-preserved c =
    line_more (trace_reader c.args.names.now) c.args.bytes.now c.loop-rest.rest.now c.first_line.result.1.now
    c.first_line.result.0.now c.loop-rest.count _ _ c.loop-rest.invariant c.first_line.ensures.lines
    c.first_line.ensures.shorter c.in_ok-take_line.ensures.taken
