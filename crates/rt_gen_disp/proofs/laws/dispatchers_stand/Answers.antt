use Rattle.rt_gen_disp.proofs.Dispatching as lemma
use Rattle.rt_gen_disp.proofs.laws.dispatchers_stand.Goals as goal

pub returns : goal.returns
returns c = lemma.dispatchers_stand
