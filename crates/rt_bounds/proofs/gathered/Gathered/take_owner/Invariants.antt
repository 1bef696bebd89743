use Rattle.std.proofs.Common.{◌≡◌, List, map}
use Rattle.rt_points.specs.declared.point.Owner.{Owner}
use Rattle.rt_bounds.specs.Inside.Gathered.{IsGathered, IsGatheredTo, ArePriorities}
use Rattle.rt_bounds.proofs.gathered.Gathered.take_owner.Given as goal

abbrev pub invariant-loop-depth : goal.invariant-loop-depth
invariant-loop-depth l = record {
  gathered : (done : List Owner) → IsGathered l.image done l.fn.self
      → IsGatheredTo l.image done l.owner l.depth 0 l.self;
  sections : l.self.sections ≡ l.fn.self.sections;
  same : map (λ row. row.priority) l.self.waits.items ≡ map (λ row. row.priority) l.fn.self.waits.items;
  priorities : ArePriorities l.image.bits l.self.waits.items;
}
