use Rattle.std.proofs.Common.{◌++◌, codes, decimal, sym, subst}
use Rattle.rt_ids.specs.declared.status.Status.TheVariants as status
use Rattle.rt_points.specs.Checked.{IsLeastBroken}
use Rattle.rt_top.proofs.Giving.{line_tells}
use Rattle.rt_topx.specs.Bounded.{TellsTimedBounds, breaks_one}
use Rattle.rt_topx.proofs.timed.timed_reply.Goals as goal

pub checked_reply-requires-clause-checked : goal.checked_reply-requires-clause-checked
checked_reply-requires-clause-checked c = (rw c.in-Ok-Yes.field-0-is at c.in-Ok-Yes.ensures).0

pub returns-in-Ok-No : goal.returns-in-Ok-No
returns-in-Ok-No c =
    let least = subst (IsLeastBroken c.args.image.now) (sym c.from.ensures)
    (rw c.in-Ok-No.field-0-is at c.in-Ok-No.ensures) in
    line_tells status.No (codes "no " ++ decimal c.from.result ++ codes "\n")
    (TellsTimedBounds c.args.image.now c.args.limits.now) (breaks_one c.from.result least) c.reply_number.result
    c.reply_number.ensures
