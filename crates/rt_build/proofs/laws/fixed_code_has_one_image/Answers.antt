use Rattle.rt_build.proofs.OneImage.{one_image}
use Rattle.rt_build.proofs.laws.fixed_code_has_one_image.Goals as goal

pub returns : goal.returns
returns c = one_image
