-- The law on every image.
use Rattle.rt_sim.proofs.Good.{images_are_good_beside}
use Rattle.rt_sim.proofs.laws.images_are_good_beside.Goals as goal

pub returns : goal.returns
returns c = images_are_good_beside
