use Rattle.rt_gen_timer.proofs.Timers as proved
use Rattle.rt_gen_timer.proofs.laws.timers_stand.Goals as goal

pub returns : goal.returns
returns c = proved.timers_stand
