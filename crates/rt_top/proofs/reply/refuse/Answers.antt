use Rattle.std.proofs.Common.{◌≡◌}
use Rattle.rt_ids.specs.declared.status.Status.TheVariants as status
use Rattle.rt_top.specs.Refusal.{refusal_line}
use Rattle.rt_top.proofs.Giving.{made_tells}
use Rattle.rt_top.proofs.reply.refuse.Goals as goal

pub returns : goal.returns
returns c =
    made_tells status.App (λ bytes. bytes ≡ refusal_line c.args.fault) c.refusal_line.result c.refusal_line.ensures
    c.reply_of_text.result
    c.reply_of_text.ensures.text c.reply_of_text.ensures.memory
