use Rattle.rt_build.proofs.OneImage.{one_is_built}
use Rattle.rt_build.proofs.laws.one_image_is_built.Goals as goal

pub returns : goal.returns
returns c = one_is_built
