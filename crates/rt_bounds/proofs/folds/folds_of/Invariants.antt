use Rattle.std.proofs.Common.{◌≡◌, length}
use Rattle.rt_judge.specs.Inside.Walks.{reached_by}
use Rattle.rt_bounds.specs.Inside.Aheads.{AreFolds}
use Rattle.rt_bounds.specs.Inside.Inners.{AreInners}
use Rattle.rt_bounds.specs.Inside.Surveys.{IsBlank}
use Rattle.rt_bounds.proofs.folds.folds_of.Given as goal

abbrev pub invariant-loop-last : goal.invariant-loop-last
invariant-loop-last l = record {
  folded : AreFolds l.image l.owner (reached_by l.walk) l.last l.folds.items;
  blank : IsBlank l.image l.survey;
  inners : AreInners l.image l.owner l.walk l.sources l.inners.items;
  room : length l.inners.items ≡ length l.image.code;
}
