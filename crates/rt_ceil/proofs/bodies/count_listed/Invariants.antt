-- The tables after the listings so far.
use Rattle.std.proofs.Common.{◌≡◌, take}
use Rattle.std.specs.List.{fold}
use Rattle.rt_ceil.specs.Inside.Tables.{tables_after_listing}
use Rattle.rt_ceil.proofs.bodies.count_listed.Given as goal

abbrev pub invariant-loop-listing : goal.invariant-loop-listing
invariant-loop-listing l = l.tables ≡ fold (tables_after_listing l.priority) l.fn.tables
    (take l.listing-index l.listings)
