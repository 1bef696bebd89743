use Rattle.rt_rta.proofs.Responding.{runs_respond}
use Rattle.rt_rta.proofs.laws.runs_respond.Goals as goal

pub returns : goal.returns
returns c = runs_respond
