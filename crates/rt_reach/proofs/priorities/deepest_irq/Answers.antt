use Rattle.std.proofs.Common.{ap, sym, ◌∙◌}
use Rattle.rt_app.specs.View.{app_of}
use Rattle.rt_app.specs.Handlers.{irq_number}
use Rattle.rt_ids.specs.Lists.{then_from}
use Rattle.rt_reach.proofs.Rising.{deepest_by}
use Rattle.rt_reach.proofs.priorities.deepest_irq.Goals as goal

pub returns-in_err-index : goal.returns-in_err-index
returns-in_err-index c =
    let app = app_of c.args.app.now in
    let by = deepest_by app c.requires.accepted c.requires.form c.args.priority c.greatest_frame-words.result
    c.greatest_frame-words.ensures in
    c.from_residual.ensures ∙ ap (λ o. then_from o (irq_number app)) (sym c.in_err-index.was ∙ c.index_bound.ensures)
    ∙ by

pub returns : goal.returns
returns c =
    let app = app_of c.args.app.now in
    let by = deepest_by app c.requires.accepted c.requires.form c.args.priority c.greatest_frame-words.result
    c.greatest_frame-words.ensures in
    c.number_at.ensures ∙ ap (λ o. then_from o (irq_number app)) (sym c.in_ok-index.was ∙ c.index_bound.ensures) ∙ by
