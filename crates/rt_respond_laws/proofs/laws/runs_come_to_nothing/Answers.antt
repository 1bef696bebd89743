use Rattle.rt_respond_laws.proofs.Coming.{runs_come_to_nothing}
use Rattle.rt_respond_laws.proofs.laws.runs_come_to_nothing.Goals as goal

pub returns : goal.returns
returns c = runs_come_to_nothing
