use Rattle.std.proofs.Common.{◌≡◌, ◌++◌, codes, sym, subst}
use Rattle.rt_top.specs.Inside.Decides.{Tells}
use Rattle.rt_top.specs.Inside.Replies.{IsOfSecond}
use Rattle.rt_top.proofs.Giving.{made_tells}
use Rattle.rt_top.proofs.reply.of_second.Goals as goal

pub returns-in-Write : goal.returns-in-Write
returns-in-Write c =
    subst (λ r. IsOfSecond r c.reply_of_text.result) (sym c.in-Write.is)
    (subst (λ l. Tells c.in-Write.status (λ bytes. bytes ≡ codes "second " ++ l) c.reply_of_text.result)
    c.deref.ensures.value
    (made_tells c.in-Write.status (λ bytes. bytes ≡ codes "second " ++ c.deref.result.now) c.second_line.result
    c.second_line.ensures c.reply_of_text.result c.reply_of_text.ensures.text c.reply_of_text.ensures.memory))
