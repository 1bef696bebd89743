-- The listings so far are those of the bodies so far.
use Rattle.std.proofs.Common.{◌≡◌, map, flat_map, take}
use Rattle.rt_app.specs.Listing.{listings_of}
use Rattle.rt_rules.specs.Inside.View.{member_of}
use Rattle.rt_rules.proofs.listing.listings.Given as goal

abbrev pub invariant-loop-member : goal.invariant-loop-member
invariant-loop-member l = l.listings.items ≡ flat_map listings_of (map member_of (take l.member-index l.members))
