use Rattle.std.proofs.Common.{◌≡◌, inl, inr, subst}
use Rattle.rt_ast.specs.Canonical.{canonical}
use Rattle.rt_ast.specs.View.{app_of}
use Rattle.rt_grammar.specs.Text.{IsText}
use Rattle.rt_ids.specs.declared.status.Status.TheVariants as status
use Rattle.rt_top.proofs.Giving.{made_tells, replies_as}
use Rattle.rt_top.proofs.format.fmt.Goals as goal

pub returns-in-Ok : goal.returns-in-Ok
returns-in-Ok g c second third =
    let a = app_of c.in-Ok.written.tree in
    let read = c.in-Ok.ensures in
    let spelled = subst (λ m. IsText m a) read.1.1 read.1.0 in
    inl (
      read.0,
      (a, spelled),
      replies_as c.reply_of_text.result
          (made_tells status.Done (λ bytes. bytes ≡ canonical a) c.canonical.result c.canonical.ensures
          c.reply_of_text.result c.reply_of_text.ensures.text c.reply_of_text.ensures.memory)
          (λ ended bytes says. (says.0, (a, spelled, says.1))),
    )

pub returns-in-Err : goal.returns-in-Err
returns-in-Err g c second third = inr c.in-Err.ensures
