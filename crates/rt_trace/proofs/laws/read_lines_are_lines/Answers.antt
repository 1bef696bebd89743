use Rattle.rt_trace.proofs.LinesRead.{read_lines}
use Rattle.rt_trace.proofs.laws.read_lines_are_lines.Goals as goal

pub returns : goal.returns
returns c = read_lines
