use Rattle.rt_laws.proofs.AllMoments as moments
use Rattle.rt_laws.proofs.laws.runs_beside_keep_messages.Goals as goal

pub returns : goal.returns
returns c = moments.runs_beside_keep_messages
