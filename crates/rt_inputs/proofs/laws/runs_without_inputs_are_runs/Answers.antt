use Rattle.rt_inputs.proofs.Proved.{runs_are_runs}
use Rattle.rt_inputs.proofs.laws.runs_without_inputs_are_runs.Goals as goal

pub returns : goal.returns
returns c = runs_are_runs
