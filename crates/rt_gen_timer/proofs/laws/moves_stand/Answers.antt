use Rattle.rt_gen_timer.proofs.Moving.{moves_all_stand}
use Rattle.rt_gen_timer.proofs.laws.moves_stand.Goals as goal

pub returns : goal.returns
returns c = moves_all_stand
