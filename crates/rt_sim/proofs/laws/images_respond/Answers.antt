-- The handlers of images respond in time.
use Rattle.rt_sim.proofs.Responding.{images_respond}
use Rattle.rt_sim.proofs.laws.images_respond.Goals as goal

pub returns : goal.returns
returns c = images_respond
