-- The law on every image.
use Rattle.rt_sim.proofs.Good.{images_are_good}
use Rattle.rt_sim.proofs.laws.images_are_good.Goals as goal

pub returns : goal.returns
returns c = images_are_good
