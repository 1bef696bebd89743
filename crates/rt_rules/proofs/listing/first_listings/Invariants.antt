-- The first listings are those of the listings so far.
use Rattle.std.proofs.Common.{◌≡◌, ℕ, ◌==◌, find, take}
use Rattle.rt_rules.specs.Inside.Tables.{listing_at}
use Rattle.rt_rules.proofs.listing.first_listings.Given as goal

abbrev pub invariant-loop-listing : goal.invariant-loop-listing
invariant-loop-listing l = (r : ℕ) → listing_at l.first r ≡ find (λ x. x.listed.resource == r)
    (take l.listing-index l.listings)
