use Rattle.std.proofs.Common.{◌≡◌}
use Rattle.rt_ids.specs.declared.status.Status.TheVariants as status
use Rattle.rt_respond.specs.Text.{refusal_text}
use Rattle.rt_top.proofs.Giving.{made_tells}
use Rattle.rt_topx.proofs.respond.refuse_limits.Goals as goal

pub returns-in-Wrong : goal.returns-in-Wrong
returns-in-Wrong c =
    rw c.in-Wrong.is (made_tells status.Text (λ bytes. bytes ≡ refusal_text c.in-Wrong.line c.in-Wrong.cause)
    c.refusal_text.result c.refusal_text.ensures c.reply_of_text.result c.reply_of_text.ensures.text
    c.reply_of_text.ensures.memory)
