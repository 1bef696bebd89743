use Rattle.rt_gen_queue.proofs.Whole.{spawn_stands}
use Rattle.rt_gen_queue.proofs.laws.spawns_stand.Goals as goal

pub returns : goal.returns
returns c = spawn_stands
