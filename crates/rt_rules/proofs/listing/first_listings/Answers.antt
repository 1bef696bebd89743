use Rattle.std.proofs.Common.{◌==◌}
use Rattle.rt_app.specs.Listing.{Listing}
use Rattle.rt_rules.proofs.Steps.{find_more}
use Rattle.rt_rules.proofs.listing.first_listings.Goals as goal

pub loop-listing-preserved : goal.loop-listing-preserved
loop-listing-preserved c =
    λ r. find_more (λ (l : Listing). l.listed.resource == r) c.args.listings.now c.loop-listing.listing-index
    c.listing-item.result _ _ c.loop-listing-test.true c.listing-item.is (c.loop-listing.invariant r)
    (c.note.ensures r)
