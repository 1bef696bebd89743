use Rattle.rt_rta.proofs.Responding.{runs_respond_once_init_ends}
use Rattle.rt_rta.proofs.laws.runs_respond_once_init_ends.Goals as goal

pub returns : goal.returns
returns c = runs_respond_once_init_ends
