use Rattle.rt_inputs_audit.proofs.Written.{runs_give}
use Rattle.rt_inputs_audit.proofs.laws.runs_give_inputs.Goals as goal

pub returns : goal.returns
returns c = runs_give
