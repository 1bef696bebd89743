use Rattle.std.proofs.Common.{ℕ, true, Bool, List, set, get_or, drop, None, refl, ap, ◌∙◌}
use Rattle.rt_nvic.specs.Nvic.{Nvic}
use Rattle.rt_nvic.specs.Inside.Bits.{flags}
use Rattle.rt_nvic.specs.Inside.Keys.{key}
use Rattle.rt_nvic.proofs.Flags.{flags_set}
use Rattle.rt_nvic.proofs.Taking.{kept_pended}
use Rattle.rt_nvic.proofs.nvic.Nvic.post.Goals as goal

pub invariant_of-self : goal.invariant_of-self
invariant_of-self c =
    let is = c.self.inside in
    let k = c.get-number.result in
    let l = c.get-number.ensures.in_range in
    let now = flags_set is.pending c.set_bit.new.words k l c.set_bit.ensures.same c.set_bit.ensures.others in
    let here =
    c.set_key.ensures.same
    ∙ c.key-key.ensures
    ∙ ap (λ (i : ℕ). key k (get_or is.priorities i None) true) c.from.ensures in
    kept_pended is.priorities is.pending c.set_bit.new.words is.active is.active is.top is.top is.nodes
    c.set_key.new.nodes k true l c.self.invariant c.set_bit.ensures.long now refl c.self.invariant.fixed.top_within
    c.set_key.ensures.long c.set_key.ensures.tournament here c.set_key.ensures.others

pub returns : goal.returns
returns c =
    let is = c.self.inside in
    let k = c.get-number.result in
    let now = flags_set is.pending c.set_bit.new.words k c.get-number.ensures.in_range c.set_bit.ensures.same
    c.set_bit.ensures.others in
    let shown : List Bool → Nvic =
    λ pending. record { priorities = is.priorities; pending = pending; active = drop is.top is.active } in
    ap shown (now ∙ ap (λ (i : ℕ). set (flags is.pending) i true) c.get-number.ensures.value)
    ∙ ap (λ (n : Nvic). record n { pending = set n.pending c.args.irq true }) c.self.view_is
