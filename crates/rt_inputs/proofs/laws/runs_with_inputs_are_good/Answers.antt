use Rattle.rt_inputs.proofs.Free.{runs_with_inputs_are_good}
use Rattle.rt_inputs.proofs.laws.runs_with_inputs_are_good.Goals as goal

pub returns : goal.returns
returns c = runs_with_inputs_are_good
