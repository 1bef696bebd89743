use Rattle.rt_gen_timer.proofs.Cancelling.{cancels_all_stand}
use Rattle.rt_gen_timer.proofs.laws.cancels_stand.Goals as goal

pub returns : goal.returns
returns c = cancels_all_stand
