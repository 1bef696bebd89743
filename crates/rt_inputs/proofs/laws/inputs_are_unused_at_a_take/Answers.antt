use Rattle.rt_inputs.proofs.Unused.{inputs_are_unused}
use Rattle.rt_inputs.proofs.laws.inputs_are_unused_at_a_take.Goals as goal

pub returns : goal.returns
returns c = inputs_are_unused
