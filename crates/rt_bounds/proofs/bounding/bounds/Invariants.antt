use Rattle.std.proofs.Common.{◌≡◌, suc, ◌^◌, map}
use Rattle.rt_ids.specs.Lists.{those_below}
use Rattle.rt_bounds.specs.Bounds.{is_used}
use Rattle.rt_bounds.specs.Inside.Gathered.{ArePriorities}
use Rattle.rt_bounds.specs.Inside.Whole.{IsGatheredBelow}
use Rattle.rt_bounds.proofs.bounding.bounds.Given as goal

abbrev pub invariant-loop-index : goal.invariant-loop-index
invariant-loop-index l = record {
  below : IsGatheredBelow l.image l.index l.gathered l.handlers.items;
  used : map (λ row. row.priority) l.gathered.waits.items ≡ those_below (is_used l.image) (suc (2 ^ l.image.bits));
  priorities : ArePriorities l.image.bits l.gathered.waits.items;
}
