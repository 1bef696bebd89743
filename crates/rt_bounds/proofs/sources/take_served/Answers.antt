use Rattle.std.proofs.Common.{◌+◌, ap, subst, sym, ◌∙◌}
use Rattle.rt_judge.specs.declared.walk.Visit.{Visit}
use Rattle.rt_bounds.specs.Inside.Sources.{AreServed}
use Rattle.rt_bounds.proofs.Begins.{served_more, served_skip}
use Rattle.rt_bounds.proofs.sources.take_served.Goals as goal

pub returns-in_ok-push : goal.returns-in_ok-push
returns-in_ok-push c = λ before.
    subst (AreServed c.args.image.now c.args.init.now (c.args.to + 1)) (sym c.in_ok-push.ensures.items)
    (served_more c.args.image.now c.args.init.now c.args.to c.args.starts.now.items c.visit_at.result
    (ap (λ (v : Visit). v.address) c.visit_at.ensures) (sym c.is_served.ensures ∙ c.if-is_served.true) before)

pub returns-else-is_served : goal.returns-else-is_served
returns-else-is_served c =
    served_skip c.args.image.now c.args.init.now c.args.to c.args.starts.now.items
    (sym c.is_served.ensures ∙ c.if-is_served.false)
