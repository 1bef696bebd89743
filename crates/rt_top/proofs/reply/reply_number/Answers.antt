use Rattle.std.proofs.Common.{◌≡◌, ◌++◌, decimal}
use Rattle.rt_top.proofs.Giving.{made_tells}
use Rattle.rt_top.proofs.reply.reply_number.Goals as goal

pub returns : goal.returns
returns c =
    made_tells c.args.status (λ bytes. bytes ≡ c.args.front.now ++ decimal c.args.number ++ c.args.back.now)
    c.numbered_line.result c.numbered_line.ensures c.reply_of_text.result
    c.reply_of_text.ensures.text c.reply_of_text.ensures.memory
