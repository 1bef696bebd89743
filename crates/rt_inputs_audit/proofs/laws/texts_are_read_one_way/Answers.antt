use Rattle.rt_inputs_audit.proofs.Written.{texts_read_one_way}
use Rattle.rt_inputs_audit.proofs.laws.texts_are_read_one_way.Goals as goal

pub returns : goal.returns
returns c = texts_read_one_way
