use Rattle.rt_native_runs.proofs.Behaving.{images_behave}
use Rattle.rt_native_runs.proofs.laws.images_behave.Goals as goal

pub returns : goal.returns
returns c = images_behave
