-- The places so far, with those that are left.
use Rattle.std.proofs.Common.{◌≡◌, ◌+◌, ◌≤◌, ◌++◌, map, sum_by, drop}
use Rattle.rt_native.specs.Layout.{places_from}
use Rattle.rt_native.specs.Service.{entrance_size}
use Rattle.rt_native.proofs.layout.stub_places.Given as goal

abbrev pub invariant-loop-row : goal.invariant-loop-row
invariant-loop-row l = record {
  places : l.places.items
      ++ places_from l.place (map (entrance_size l.fn.at l.target) (drop l.row-index l.image.irqs))
      ≡ places_from l.fn.first (map (entrance_size l.fn.at l.target) l.image.irqs);
  place : l.place + sum_by (entrance_size l.fn.at l.target) (drop l.row-index l.image.irqs)
      ≡ l.fn.first + sum_by (entrance_size l.fn.at l.target) l.image.irqs;
  within : l.place ≤ l.end;
}
