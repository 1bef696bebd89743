use Rattle.rt_inputs.proofs.Proved.{runs_are_shown}
use Rattle.rt_inputs.proofs.laws.runs_with_inputs_are_shown.Goals as goal

pub returns : goal.returns
returns c = runs_are_shown
