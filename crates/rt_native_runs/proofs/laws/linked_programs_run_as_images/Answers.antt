use Rattle.rt_native_runs.proofs.Running.{linked_programs_run_as_images}
use Rattle.rt_native_runs.proofs.laws.linked_programs_run_as_images.Goals as goal

pub returns : goal.returns
returns c = linked_programs_run_as_images
