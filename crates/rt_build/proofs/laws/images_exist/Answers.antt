use Rattle.rt_build.proofs.Existing.{images_exist}
use Rattle.rt_build.proofs.laws.images_exist.Goals as goal

pub returns : goal.returns
returns c = images_exist
