use Rattle.std.proofs.Common.{◌≡◌, length}
use Rattle.rt_bounds.specs.Inside.Surveys.{IsListed}
use Rattle.rt_bounds.proofs.survey.Survey.forget.Given as goal

abbrev pub invariant-loop-address : goal.invariant-loop-address
invariant-loop-address l = record {
  trail : l.self.trail ≡ l.fn.self.trail;
  size : length l.self.marks.items ≡ length l.fn.self.marks.items;
  listed : IsListed l.self.marks.items l.self.seen.items;
}

abbrev pub decreases-loop-address : goal.decreases-loop-address
decreases-loop-address l = length l.self.seen.items
