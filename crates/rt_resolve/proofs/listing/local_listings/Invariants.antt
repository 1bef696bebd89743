-- The listings so far are of what is listed so far.
use Rattle.std.proofs.Common.{◌≡◌, map, flat_map, take}
use Rattle.rt_ast.specs.View as written
use Rattle.rt_resolve.specs.Scope as named
use Rattle.rt_resolve.specs.NameRules.{listing_of}
use Rattle.rt_resolve.specs.Inside.NamesView.{use_of}
use Rattle.rt_resolve.proofs.listing.local_listings.Given as goal

abbrev pub invariant-loop-x : goal.invariant-loop-x
invariant-loop-x l = map use_of l.listings.items ≡ flat_map
    (λ x. listing_of (named.local_named (written.app_of l.app) x.name) x.at) (take l.x-index l.listed)
