use Rattle.std.proofs.Common.{◌++◌, codes, decimal, sym, subst}
use Rattle.rt_ids.specs.declared.status.Status.TheVariants as status
use Rattle.rt_points.specs.Checked.{IsLeastBroken}
use Rattle.rt_top.specs.Verified.{TellsImage, is_safe, breaks}
use Rattle.rt_top.proofs.Giving.{line_tells}
use Rattle.rt_top.proofs.verify.image_reply.Goals as goal

pub returns-in-Ok-Yes : goal.returns-in-Ok-Yes
returns-in-Ok-Yes c =
    let safe = rw c.in-Ok-Yes.field-0-is at c.in-Ok-Yes.ensures in
    line_tells status.Done (codes "yes\n") (TellsImage c.args.image.now) (is_safe safe.0 safe.1) c.line.result
    c.line.ensures

pub returns-in-Ok-No : goal.returns-in-Ok-No
returns-in-Ok-No c =
    let least = subst (IsLeastBroken c.args.image.now) (sym c.from.ensures)
    (rw c.in-Ok-No.field-0-is at c.in-Ok-No.ensures) in
    line_tells status.No (codes "no " ++ decimal c.from.result ++ codes "\n") (TellsImage c.args.image.now)
    (breaks c.from.result least) c.reply_number.result c.reply_number.ensures
