use Rattle.std.proofs.Common.{◌≡◌}
use Rattle.rt_top.proofs.Giving.{made_tells}
use Rattle.rt_top.proofs.reply.line.Goals as goal

pub returns : goal.returns
returns c =
    made_tells c.args.status (λ bytes. bytes ≡ c.args.line.now) c.from_slice.result c.from_slice.ensures.items
    c.reply_of_text.result
    c.reply_of_text.ensures.text c.reply_of_text.ensures.memory
