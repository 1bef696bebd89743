use Rattle.rt_live_inputs.proofs.Good.{live_runs_are_good}
use Rattle.rt_live_inputs.proofs.laws.live_runs_are_good.Goals as goal

pub returns : goal.returns
returns c = live_runs_are_good
