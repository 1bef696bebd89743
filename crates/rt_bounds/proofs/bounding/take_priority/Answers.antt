use Rattle.std.proofs.Common.{◌+◌, None, refl, sym, subst, ◌∙◌}
use Rattle.rt_bounds.specs.Inside.Whole.{AreFirstTo}
use Rattle.rt_bounds.proofs.Covering.{priority_more, priority_past}
use Rattle.rt_bounds.proofs.bounding.take_priority.Goals as goal

pub returns-in_ok-push : goal.returns-in_ok-push
returns-in_ok-push c = λ first.
    subst (AreFirstTo c.args.image.now (c.args.number + 1)) (sym c.in_ok-push.ensures.items)
    (priority_more c.args.image.now c.args.number c.args.waits.now.items
    (record { priority = c.args.number; longest = None }) refl refl (sym c.is_used.ensures ∙ c.if-is_used.true) first)

pub returns-else-is_used : goal.returns-else-is_used
returns-else-is_used c = priority_past c.args.image.now c.args.number c.args.waits.now.items
    (sym c.is_used.ensures ∙ c.if-is_used.false)
