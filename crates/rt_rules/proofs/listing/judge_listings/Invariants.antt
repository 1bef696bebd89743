-- The first violation so far is that of the listings so far.
use Rattle.std.proofs.Common.{◌≡◌, flat_map, take}
use Rattle.rt_app.specs.View.{app_of}
use Rattle.rt_app.specs.Listing.{listing_breaks}
use Rattle.rt_rules.specs.Inside.First.{first_of}
use Rattle.rt_rules.proofs.listing.judge_listings.Given as goal

abbrev pub invariant-loop-listing : goal.invariant-loop-listing
invariant-loop-listing l = l.first ≡ first_of l.fn.first
    (flat_map (listing_breaks (app_of l.app)) (take l.listing-index l.listing-items))
