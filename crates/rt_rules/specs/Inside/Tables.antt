-- What the code's tables hold.
use Rattle.std.specs.Prelude.{ℕ, Bool, false, Option, Some, None, slice_index_or}
use Rattle.rt_app.specs.Listing.{Listing}
use Rattle.rt_rules.specs.declared.numbers.Numbers.{Numbers}
use Rattle.rt_rules.specs.declared.listing.FirstListings.{FirstListings}

-- whether a number is in
abbrev pub has : Numbers → ℕ → Bool
has numbers k = slice_index_or numbers.marks.items k false

-- the listing of a resource
abbrev pub listing_at : FirstListings → ℕ → Option Listing
listing_at listings r = slice_index_or listings.by_resource r None

-- what was found first stays
abbrev pub or_else : {A : Type 0} → Option A → Option A → Option A
or_else None y = y
or_else (Some x) y = Some x
