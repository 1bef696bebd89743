use Rattle.rt_listing.proofs.Apart.{images_apart}
use Rattle.rt_listing.proofs.law.listings_tell_images_apart.Goals as goal

pub returns : goal.returns
returns c = images_apart
