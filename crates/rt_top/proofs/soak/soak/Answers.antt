use Rattle.std.proofs.lemmas.Result.{IfOk-weaker}
use Rattle.rt_app.specs.View.{app_of}
use Rattle.rt_ids.specs.declared.status.Status.TheVariants as status
use Rattle.rt_top.specs.Outputs.{TellsSoak}
use Rattle.rt_top.proofs.Giving.{made_tells}
use Rattle.rt_top.proofs.soak.soak.Goals as goal

pub returns-in-Ok : goal.returns-in-Ok
returns-in-Ok g c =
    made_tells status.Done (TellsSoak (app_of c.args.app.now) c.args.number c.args.count) c.text.result
    (IfOk-weaker c.text.result _ _ (λ text says. (c.in-Ok.summary, c.in-Ok.ensures, says)) c.text.ensures)
    c.reply_of_text.result c.reply_of_text.ensures.text c.reply_of_text.ensures.memory
