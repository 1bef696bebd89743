use Rattle.std.proofs.Common.{ℕ, ◌-◌, ◌≤◌, false, get_or, set, length-set, None, ap, ◌∙◌, arith}
use Rattle.rt_nvic.specs.Nvic.{Nvic}
use Rattle.rt_nvic.specs.Inside.Bits.{flags}
use Rattle.rt_nvic.specs.declared.sizes.TheConstants.{ACTIVE}
use Rattle.rt_nvic.proofs.Flags.{flags_cleared}
use Rattle.rt_nvic.proofs.Taking.{kept_pended, key_not_pending}
use Rattle.rt_nvic.proofs.nvic.Nvic.enter.Goals as goal

pub invariant_of-self : goal.invariant_of-self
invariant_of-self c =
    let is = c.self.inside in
    let k = c.get-number.result in
    let l = c.get-number.ensures.in_range in
    let later = c.clear_bit.new.words in
    let now = flags_cleared is.pending later k l c.clear_bit.ensures.same c.clear_bit.ensures.others in
    let within = c.self.invariant.fixed.top_within in
    let less : is.top - 1 ≤ ACTIVE = omega arith in
    let here = c.set_key.ensures.same ∙ key_not_pending k (get_or is.priorities k None) in
    kept_pended is.priorities is.pending later is.active (set is.active (is.top - 1) c.args.irq) is.top (is.top - 1)
    is.nodes c.set_key.new.nodes k false l c.self.invariant c.clear_bit.ensures.long now
    (length-set is.active (is.top - 1) c.args.irq) less c.set_key.ensures.long c.set_key.ensures.tournament here
    c.set_key.ensures.others

pub returns-clause-pending : goal.returns-clause-pending
returns-clause-pending c =
    let is = c.self.inside in
    let k = c.get-number.result in
    flags_cleared is.pending c.clear_bit.new.words k c.get-number.ensures.in_range c.clear_bit.ensures.same
    c.clear_bit.ensures.others
    ∙ ap (λ (i : ℕ). set (flags is.pending) i false) c.get-number.ensures.value
    ∙ ap (λ (n : Nvic). set n.pending c.args.irq false) c.self.view_is
