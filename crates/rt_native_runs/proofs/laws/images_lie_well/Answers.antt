use Rattle.rt_native_runs.proofs.Lies.{images_lie_well}
use Rattle.rt_native_runs.proofs.laws.images_lie_well.Goals as goal

pub returns : goal.returns
returns c = images_lie_well
