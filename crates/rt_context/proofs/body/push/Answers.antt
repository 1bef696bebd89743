use Rattle.std.proofs.Common.{◌+◌, ◌-◌, set, ap, ◌∙◌}
use Rattle.rt_stack.specs.Region.{top}
use Rattle.rt_stack.specs.Top.{with_top}
use Rattle.rt_context.proofs.Calling.{copied, body_pushed}
use Rattle.rt_context.proofs.body.push.Goals as goal

pub returns : goal.returns
returns c =
    let a = c.args in
    let n = a.caller + a.frame in
    ap (with_top c.push.new.self n) (c.copy_arguments.ensures
    ∙ ap (λ ws. copied a.caller a.from a.args (set ws (a.caller - 1) a.address)) c.top-slots.ensures.value)
    ∙ ap (λ p. with_top p n (copied a.caller a.from a.args (set (top p n) (a.caller - 1) a.address))) c.push.ensures
    ∙ body_pushed a.region.now a.caller a.frame a.from a.args a.address c.requires.slot c.requires.caller
    c.requires.there c.requires.taken
