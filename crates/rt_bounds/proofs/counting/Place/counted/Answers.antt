use Rattle.std.proofs.Common.{◌≡◌, Some, None, ap, subst, ◌∙◌}
use Rattle.rt_bounds.specs.Inside.Countings.{MatchCounts}
use Rattle.rt_bounds.specs.Inside.Shapes.{jump_at}
use Rattle.rt_bounds.proofs.counting.Place.counted.Goals as goal

pub returns-in-Some : goal.returns-in-Some
returns-in-Some c = λ owner mapped sources loop slot to told stands.
    let is : Some c.in-Some.slot ≡ Some slot = c.in-Some.ensures ∙ ap jump_at stands in
    let same : c.in-Some.slot ≡ slot = cc in
    subst (λ s. MatchCounts c.args.image.now owner c.args.self.now s c.turns_on.result) same
    (c.turns_on.ensures owner mapped sources loop)

pub returns-in-None : goal.returns-in-None
returns-in-None c = λ owner mapped sources loop slot to told stands.
    let is : None ≡ Some slot = c.in-None.ensures ∙ ap jump_at stands in
    absurd cc
