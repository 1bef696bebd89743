use Rattle.rt_respond_laws.proofs.Messages.{runs_run_each}
use Rattle.rt_respond_laws.proofs.laws.runs_run_each.Goals as goal

pub returns : goal.returns
returns c = runs_run_each
