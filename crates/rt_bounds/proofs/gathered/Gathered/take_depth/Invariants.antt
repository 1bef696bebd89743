use Rattle.std.proofs.Common.{◌≡◌, ◌+◌, List, map, None}
use Rattle.rt_points.specs.declared.point.Owner.{Owner}
use Rattle.rt_bounds.specs.Inside.Gathered.{IsGatheredTo, ArePriorities}
use Rattle.rt_bounds.specs.Inside.Surveys.{IsSurveyed}
use Rattle.rt_bounds.proofs.gathered.Gathered.take_depth.Given as goal

abbrev pub invariant-loop-address : goal.invariant-loop-address
invariant-loop-address l = record {
  survey : IsSurveyed l.image l.owner l.walk l.survey;
  depth : l.survey.depth ≡ l.depth + 1;
  goal : l.survey.goal ≡ None;
  gathered : (done : List Owner) → IsGatheredTo l.image done l.owner l.depth 0 l.fn.self
      → IsGatheredTo l.image done l.owner l.depth l.address l.self;
  sections : l.self.sections ≡ l.fn.self.sections;
  same : map (λ row. row.priority) l.self.waits.items ≡ map (λ row. row.priority) l.fn.self.waits.items;
  priorities : ArePriorities l.image.bits l.self.waits.items;
}
