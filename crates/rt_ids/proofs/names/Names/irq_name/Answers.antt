use Rattle.std.proofs.Common.{ℕ, sym, ap, ◌∙◌, Some, None, slice_get, slice_index_or, Vec}
use Rattle.std.specs.Global.{Global}
use Rattle.std.specs.Option.{option_map}
use Rattle.rt_ids.specs.Inside.Kept.{text}
use Rattle.rt_ids.specs.Naming.{irq_named}
use Rattle.rt_ids.proofs.Declared.{irq_found, irq_missing}
use Rattle.rt_ids.proofs.names.Names.irq_name.Goals as goal

pub returns-in_err-index : goal.returns-in_err-index
returns-in_err-index c =
    ap (option_map (λ name. name.now)) c.from_residual.ensures
    ∙ sym (ap (option_map (λ irq. irq.0)) (ap (λ names. irq_named names c.args.number) (sym c.self.view_is))
    ∙ irq_missing c.self.inside.irqs.entries c.args.number
    (sym (c.self.invariant.firsts c.args.number)
    ∙ ap (λ xs. slice_index_or xs c.args.number None) (sym c.deref.ensures.value) ∙ sym c.first_of.ensures
    ∙ c.in_err-index.was))

pub returns : goal.returns
returns c =
    let irqs = c.self.inside.irqs.entries in
    let bare = λ (irq : Vec ℕ Global × ℕ). text irq.0 in
    ap Some c.as_slice.ensures.value
    ∙ sym (ap (option_map (λ irq. irq.0)) (ap (λ names. irq_named names c.args.number) (sym c.self.view_is))
    ∙ irq_found irqs c.args.number c.in_ok-index.index
    (sym (c.self.invariant.firsts c.args.number)
    ∙ ap (λ xs. slice_index_or xs c.args.number None) (sym c.deref.ensures.value) ∙ sym c.first_of.ensures
    ∙ c.in_ok-index.was)
    ∙ ap (λ i. option_map bare (slice_get irqs i)) (sym c.from.ensures)
    ∙ ap (option_map bare) (sym c.in_ok-name.ensures.entry))
