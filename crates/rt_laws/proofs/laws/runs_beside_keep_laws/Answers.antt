use Rattle.rt_laws.proofs.laws.runs_beside_keep_laws.Goals as goal
use Rattle.rt_laws.proofs.Keeping as keeping

pub returns : goal.returns
returns c = keeping.runs_beside_keep_laws
