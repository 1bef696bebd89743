use Rattle.std.proofs.Common.{◌≡◌, ◌++◌, ℕ, codes, decimal, List, sym, subst}
use Rattle.rt_ids.specs.declared.status.Status.TheVariants as status
use Rattle.rt_points.specs.Checked.{IsLeastBroken}
use Rattle.rt_bounds.specs.Bounds.{AreBounds}
use Rattle.rt_bounds.specs.Text.{bounds_text}
use Rattle.rt_bounds.specs.declared.bound.Bounds.{Bounds}
use Rattle.rt_top.proofs.Giving.{line_tells, made_tells}
use Rattle.rt_topx.specs.Bounded.{TellsBounds, breaks, has_bounds}
use Rattle.rt_topx.proofs.Bounding.{hold_on_runs, tells_replies}
use Rattle.rt_topx.proofs.bounds.bound.Goals as goal

pub text_of_bounds-requires-clause-checked : goal.text_of_bounds-requires-clause-checked
text_of_bounds-requires-clause-checked c = (rw c.in-Ok-Yes.field-0-is at c.in-Ok-Yes.ensures).0

pub returns-in-Ok-Yes : goal.returns-in-Ok-Yes
returns-in-Ok-Yes c =
    let img = c.args.image.now in
    let P : List ℕ → Type 0 = λ bytes. (b : Bounds) × AreBounds img b × (bytes ≡ bounds_text img b) in
    let safe = rw c.in-Ok-Yes.field-0-is at c.in-Ok-Yes.ensures in
    tells_replies status.Done P (TellsBounds img)
    (λ bytes is. subst (TellsBounds img status.Done) (sym is.2)
    (has_bounds is.0 safe.0 is.1 (hold_on_runs img is.0 safe.0 is.1))) c.reply_of_text.result
    (made_tells status.Done P c.text_of_bounds.result c.text_of_bounds.ensures c.reply_of_text.result
    c.reply_of_text.ensures.text c.reply_of_text.ensures.memory)

pub returns-in-Ok-No : goal.returns-in-Ok-No
returns-in-Ok-No c =
    let least = subst (IsLeastBroken c.args.image.now) (sym c.from.ensures)
    (rw c.in-Ok-No.field-0-is at c.in-Ok-No.ensures) in
    line_tells status.No (codes "no " ++ decimal c.from.result ++ codes "\n") (TellsBounds c.args.image.now)
    (breaks c.from.result least) c.reply_number.result c.reply_number.ensures
