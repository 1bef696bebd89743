-- The places of the shares so far.
use Rattle.std.proofs.Common.{take}
use Rattle.rt_respond.specs.Inside.Places.{ArePlaces}
use Rattle.rt_respond.proofs.load.places_of.Given as goal

abbrev pub invariant-loop-index : goal.invariant-loop-index
invariant-loop-index l = ArePlaces (take l.index l.shares) l.places.items
