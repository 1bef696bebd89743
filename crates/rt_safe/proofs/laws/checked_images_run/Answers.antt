-- The law on every image.
use Rattle.rt_safe.proofs.Runnable.{checked_images_run}
use Rattle.rt_safe.proofs.laws.checked_images_run.Goals as goal

pub returns : goal.returns
returns c = checked_images_run
