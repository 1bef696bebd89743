use Rattle.std.proofs.Common.{false, sym, ap, ◌∙◌}
use Rattle.rt_nvic.specs.Nvic.{Nvic, is_pending}
use Rattle.rt_nvic.proofs.Flags.{flag}
use Rattle.rt_nvic.proofs.nvic.Nvic.is_pending.Goals as goal

pub returns : goal.returns
returns c =
    let pending = c.self.inside.pending in
    c.has_bit.ensures
    ∙ sym (flag pending c.get.result false c.get.ensures.in_range)
    ∙ ap (λ (n : Nvic). is_pending n c.get.result) c.self.view_is
    ∙ ap (is_pending c.args.self.now) c.get.ensures.value
