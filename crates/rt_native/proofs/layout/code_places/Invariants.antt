-- The places so far, with those that are left.
use Rattle.std.proofs.Common.{◌≡◌, ◌+◌, ◌≤◌, ◌++◌, sum, drop}
use Rattle.rt_native.specs.Layout.{places_from, sizes_from}
use Rattle.rt_native.proofs.layout.code_places.Given as goal

abbrev pub invariant-loop-address : goal.invariant-loop-address
invariant-loop-address l = record {
  places : l.places.items ++ places_from l.place (sizes_from l.image l.target l.address (drop l.address l.image.code))
      ≡ places_from l.fn.first (sizes_from l.image l.target 0 l.image.code);
  place : l.place + sum (sizes_from l.image l.target l.address (drop l.address l.image.code))
      ≡ l.fn.first + sum (sizes_from l.image l.target 0 l.image.code);
  within : l.place ≤ l.end;
}
