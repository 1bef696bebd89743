-- The greatest so far, with those of the rows that are left.
use Rattle.std.proofs.Common.{◌≡◌, ◌<◌, ◌^◌, map, max, drop}
use Rattle.rt_ids.specs.Lists.{greatest}
use Rattle.rt_cycles.specs.Sums.{entering, take_cycles}
use Rattle.rt_cycles.proofs.sums.take_cycles.Given as goal

abbrev pub invariant-loop-row : goal.invariant-loop-row
invariant-loop-row l = record {
  sum : max l.most (greatest (map (λ row. entering row.number row.handler) (drop l.row-index l.image.irqs)))
      ≡ take_cycles l.image;
  few : l.most < 2 ^ 69;
}
