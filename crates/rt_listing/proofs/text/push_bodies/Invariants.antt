-- The text so far ends with the lines so far.
use Rattle.std.proofs.Common.{◌≡◌, ◌++◌, All, flat_map, take}
use Rattle.rt_listing.specs.Listing.{body_line}
use Rattle.rt_listing.specs.Short.{IsShortBody}
use Rattle.rt_listing.proofs.text.push_bodies.Given as goal

abbrev pub invariant-loop-row : goal.invariant-loop-row
invariant-loop-row l = record {
  text : l.out.items ≡ l.fn.out.items ++ flat_map (body_line l.names) (take l.row-index l.bodies);
  short : All IsShortBody (take l.row-index l.bodies);
}
