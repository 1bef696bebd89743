use Rattle.rt_gen_timer.proofs.Afters as proved
use Rattle.rt_gen_timer.proofs.laws.afters_stand.Goals as goal

pub returns : goal.returns
returns c = proved.afters_stand
