use Rattle.std.proofs.Common.{◌≡◌, map, take}
use Rattle.rt_values.specs.Sides.{new_taker}
use Rattle.rt_live_inputs.specs.Inside.Making.{AreGivers}
use Rattle.rt_live_inputs.proofs.making.places_of.Given as goal

abbrev pub invariant-loop-kind : goal.invariant-loop-kind
invariant-loop-kind l = record {
  takers : l.takers.items ≡ map new_taker l.mailboxes.items;
  givers : AreGivers l.lines (take l.kind-index l.kind-items) l.mailboxes.items l.givers.items;
}
