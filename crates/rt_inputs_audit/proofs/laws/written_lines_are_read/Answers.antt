use Rattle.rt_inputs_audit.proofs.Texts.{lines_are_read}
use Rattle.rt_inputs_audit.proofs.laws.written_lines_are_read.Goals as goal

pub returns : goal.returns
returns c = lines_are_read
