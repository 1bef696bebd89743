use Rattle.rt_native_runs.proofs.Running.{programs_run_as_images}
use Rattle.rt_native_runs.proofs.laws.programs_run_as_images.Goals as goal

pub returns : goal.returns
returns c = programs_run_as_images
