use Rattle.std.proofs.Common.{◌≡◌}
use Rattle.rt_load.proofs.Judged.{limits_of_points}
use Rattle.rt_topx.specs.Explained.{Explains}
use Rattle.rt_top.proofs.Giving.{made_tells, line_tells}
use Rattle.rt_topx.proofs.Explaining.{explains}
use Rattle.rt_why.specs.Text.{why_text}
use Rattle.rt_topx.proofs.why.explain.Goals as goal

pub why-requires : goal.why-requires
why-requires c = limits_of_points c.args.image.now c.requires

pub returns-in-Ok : goal.returns-in-Ok
returns-in-Ok c =
    let image = c.args.image.now in
    let answer = c.in-Ok.answer in
    line_tells c.status_of.result (why_text image answer) (Explains image)
    (rw c.status_of.ensures (explains image answer c.in-Ok.ensures)) c.reply_of_text.result
    (made_tells c.status_of.result (λ bytes. bytes ≡ why_text image answer) c.why_text.result c.why_text.ensures
    c.reply_of_text.result c.reply_of_text.ensures.text c.reply_of_text.ensures.memory)
