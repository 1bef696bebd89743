use Rattle.std.proofs.Common.{ℕ, Some, false, set, subst, sym, ap, ◌∙◌}
use Rattle.rt_nvic.specs.Inside.Fields.{IsKept}
use Rattle.rt_nvic.specs.Inside.Keys.{key}
use Rattle.rt_nvic.proofs.Flags.{flag}
use Rattle.rt_nvic.proofs.Taking.{kept_enabled}
use Rattle.rt_nvic.proofs.nvic.Nvic.enable.Goals as goal

pub invariant_of-self : goal.invariant_of-self
invariant_of-self c =
    let is = c.self.inside in
    let k = c.get-number.result in
    let l = c.get-number.ensures.in_range in
    let here =
    c.set_key.ensures.same
    ∙ c.key-key.ensures
    ∙ ap (key k (Some c.args.prio)) (c.has_bit.ensures ∙ sym (flag is.pending k false l)) in
    let Kept : ℕ → Type 0 =
    λ i. IsKept (set is.priorities i (Some c.args.prio)) is.pending is.active is.top c.set_key.new.nodes in
    subst Kept (sym c.from.ensures)
    (kept_enabled is.priorities is.pending is.active is.top is.nodes c.set_key.new.nodes k (Some c.args.prio) l
    c.self.invariant c.set_key.ensures.long c.set_key.ensures.tournament here c.set_key.ensures.others)
