-- The law on every image.
use Rattle.rt_safe.proofs.Safe.{checked_images_are_safe}
use Rattle.rt_safe.proofs.laws.checked_images_are_safe.Goals as goal

pub returns : goal.returns
returns c = checked_images_are_safe
