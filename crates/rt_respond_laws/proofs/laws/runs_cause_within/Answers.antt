use Rattle.rt_respond_laws.proofs.Caused.{runs_cause_within}
use Rattle.rt_respond_laws.proofs.laws.runs_cause_within.Goals as goal

pub returns : goal.returns
returns c = runs_cause_within
