use Rattle.rt_respond_laws.proofs.Responding.{runs_respond_each}
use Rattle.rt_respond_laws.proofs.laws.runs_respond_each.Goals as goal

pub returns : goal.returns
returns c = runs_respond_each
