-- The listings so far are those of the body so far.
use Rattle.std.proofs.Common.{◌≡◌, ◌++◌, map, take}
use Rattle.rt_rules.proofs.listing.push_listings.Given as goal

abbrev pub invariant-loop-listed : goal.invariant-loop-listed
invariant-loop-listed l = l.listings.items ≡ l.fn.listings.items
    ++ map (λ x. record { listed = x; priority = l.member.priority }) (take l.listed-index l.listed-items)
