use Rattle.rt_ids.specs.declared.status.Status.TheVariants as status
use Rattle.rt_app.specs.View.{app_of}
use Rattle.rt_top.proofs.Giving.{made_tells}
use Rattle.rt_topx.specs.Inside.Counting.{IsCounted}
use Rattle.rt_topx.proofs.cycles.cycles.Goals as goal

pub returns : goal.returns
returns c =
    made_tells status.Done (IsCounted (app_of c.args.app.now)) c.cycles_text.result c.cycles_text.ensures
    c.reply_of_text.result c.reply_of_text.ensures.text c.reply_of_text.ensures.memory
