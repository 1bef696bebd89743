use Rattle.std.proofs.Common.{◌≡◌, ◌+◌, ◌*◌, ℕ, length}
use Rattle.std.specs.List.{AllByRecursion, Contains}
use Rattle.rt_judge.specs.Inside.Walks.{reached_by}
use Rattle.rt_bounds.specs.Inside.Aheads.{AreFolds, IsFree}
use Rattle.rt_bounds.specs.Inside.Surveys.{IsSurveying, IsListed, IsSeen, unseen}
use Rattle.rt_bounds.proofs.survey.Survey.survey.Given as goal

abbrev pub invariant-loop-top : goal.invariant-loop-top
invariant-loop-top l = record {
  depth : l.self.depth ≡ l.fn.self.depth;
  goal : l.self.goal ≡ l.fn.self.goal;
  surveying : IsSurveying l.image l.owner (reached_by l.walk) l.self.depth l.self.goal l.self.marks.items
      l.self.trail.items;
  wide : (last : ℕ) × AreFolds l.image l.owner (reached_by l.walk) last l.folds
      × AllByRecursion (IsFree l.image l.owner (reached_by l.walk) l.self.depth l.self.goal last) l.self.trail.items;
  listed : IsListed l.self.marks.items l.self.seen.items;
  on_list : AllByRecursion (λ a. Contains l.self.seen.items a) l.self.trail.items;
  seen : IsSeen l.self.marks.items l.start;
}

abbrev pub decreases-loop-top : goal.decreases-loop-top
decreases-loop-top l = 2 * unseen l.self.marks.items + length l.self.trail.items
