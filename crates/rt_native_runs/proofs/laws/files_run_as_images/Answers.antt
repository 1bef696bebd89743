use Rattle.rt_native_runs.proofs.FromFile.{files_run_as_images}
use Rattle.rt_native_runs.proofs.laws.files_run_as_images.Goals as goal

pub returns : goal.returns
returns c = files_run_as_images
