use Rattle.rt_live.proofs.Vocabulary.{Image, None, Some, ap, irq_named, option_map, sym, ◌∙◌}
use Rattle.rt_dual.proofs.Routing.{by_name}
use Rattle.rt_dual.proofs.routes.route.Goals as goal

pub returns-in_err-name : goal.returns-in_err-name
returns-in_err-name c =
    let table = ap (λ (i : Image). option_map (λ d. d.0) (irq_named i.names c.args.irq)) c.image.view_is in
    c.from_residual.ensures
    ∙ sym (by_name c.args.image.now c.args.other.now c.args.irq (sym c.is_enabled.ensures ∙ c.if-is_enabled.false) None
    (sym table ∙ sym c.irq_name.ensures ∙ ap (λ r. option_map (λ n. n.now) r) c.in_err-name.was))

pub returns : goal.returns
returns c =
    let table = ap (λ (i : Image). option_map (λ d. d.0) (irq_named i.names c.args.irq)) c.image.view_is in
    c.irq_named.ensures
    ∙ sym (by_name c.args.image.now c.args.other.now c.args.irq (sym c.is_enabled.ensures ∙ c.if-is_enabled.false)
    (Some c.in_ok-name.name.now)
    (sym table ∙ sym c.irq_name.ensures ∙ ap (λ r. option_map (λ n. n.now) r) c.in_ok-name.was))
