use Rattle.rt_laws.proofs.laws.the_highest_runs.Goals as goal
use Rattle.rt_laws.proofs.Keeping as keeping

pub returns : goal.returns
returns c = keeping.the_highest_runs
