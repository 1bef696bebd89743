use Rattle.std.proofs.Common.{◌+◌, subst, sym, ◌∙◌}
use Rattle.rt_bounds.specs.Inside.Writtens.{AreWrittenBelow}
use Rattle.rt_bounds.proofs.Slots.{passed, pushed, none_at, nothing_at}
use Rattle.rt_bounds.proofs.written.push_written.Goals as goal

pub returns-in_ok-push-in-Some-written_slot : goal.returns-in_ok-push-in-Some-written_slot
returns-in_ok-push-in-Some-written_slot c = λ before.
    subst (AreWrittenBelow c.args.image.now (c.args.address + 1))
    (sym c.in_ok-push-in-Some-written_slot.ensures.items)
    (pushed c.args.image.now c.args.address c.args.rows.now.items before c.in-Some-written_slot.slot c.in-Some.line
    (sym c.line_at.ensures ∙ c.in-Some.is) (sym c.written_slot.ensures ∙ c.in-Some-written_slot.is))

pub returns-in-None-written_slot : goal.returns-in-None-written_slot
returns-in-None-written_slot c = λ before.
    passed c.args.image.now c.args.address c.args.rows.now.items before
    (none_at c.args.image.now c.args.address c.in-Some.line (sym c.line_at.ensures ∙ c.in-Some.is)
    (sym c.written_slot.ensures ∙ c.in-None-written_slot.is))

pub returns-in-None : goal.returns-in-None
returns-in-None c = λ before.
    passed c.args.image.now c.args.address c.args.rows.now.items before
    (nothing_at c.args.image.now c.args.address (sym c.line_at.ensures ∙ c.in-None.is))
