-- No job's cost is spent in the traces of images.
use Rattle.rt_sim.proofs.Unspent.{images_leave_steps}
use Rattle.rt_sim.proofs.laws.images_leave_steps.Goals as goal

pub returns : goal.returns
returns c = images_leave_steps
