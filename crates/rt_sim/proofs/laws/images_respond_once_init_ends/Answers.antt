-- They do so also where interrupts are requested during `init`.
use Rattle.rt_sim.proofs.Responding.{images_respond_once_init_ends}
use Rattle.rt_sim.proofs.laws.images_respond_once_init_ends.Goals as goal

pub returns : goal.returns
returns c = images_respond_once_init_ends
