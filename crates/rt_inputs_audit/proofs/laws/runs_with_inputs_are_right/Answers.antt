use Rattle.rt_inputs_audit.proofs.Written.{runs_right}
use Rattle.rt_inputs_audit.proofs.laws.runs_with_inputs_are_right.Goals as goal

pub returns : goal.returns
returns c = runs_right
