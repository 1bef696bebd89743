use Rattle.rt_lines.proofs.Reading.{read_one_way}
use Rattle.rt_trace.specs.Reading.{trace_reader}
use Rattle.rt_trace.proofs.laws.texts_are_read_one_way.Goals as goal

pub returns : goal.returns
returns c = λ names. read_one_way (trace_reader names)
