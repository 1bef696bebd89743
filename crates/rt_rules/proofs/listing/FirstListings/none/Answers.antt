use Rattle.rt_rules.proofs.Steps.{none_at}
use Rattle.rt_rules.proofs.listing.FirstListings.none.Goals as goal

pub returns : goal.returns
returns c = λ r. none_at 256 r
