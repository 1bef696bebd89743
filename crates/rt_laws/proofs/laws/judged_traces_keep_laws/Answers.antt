use Rattle.rt_laws.proofs.laws.judged_traces_keep_laws.Goals as goal
use Rattle.rt_laws.proofs.Keeping as keeping

pub returns : goal.returns
returns c = keeping.judged_traces_keep_laws
