use Rattle.rt_gen_queue.proofs.Vocabulary.{List, Option, all_at, ap, app_of, irq_number, length, option_map, or_zero}
use Rattle.rt_gen_queue.proofs.Vocabulary.{refl, slice_get, slice_get_read, sym, then_from, ℕ, ◌<◌, ◌∙◌}
use Rattle.rt_app.specs.declared.app.{Dispatcher.Dispatcher, IrqDecl.IrqDecl}
use Rattle.rt_gen_queue.proofs.queue.dispatcher_number.Goals as goal

pub irq_number-requires : goal.irq_number-requires
irq_number-requires c =
    let app = app_of c.args.app.now in
    let there = slice_get_read app.dispatchers (length app.dispatchers) c.args.index c.index.result.now refl
    c.requires.there c.index.ensures in
    rw c.deref.ensures.value
    (all_at (λ (d : Dispatcher). d.irq < length app.irqs) app.dispatchers c.args.index c.index.result.now
    c.requires.accepted.dispatchers there)

pub returns : goal.returns
returns c =
    let app = app_of c.args.app.now in
    let there = slice_get_read app.dispatchers (length app.dispatchers) c.args.index c.index.result.now refl
    c.requires.there c.index.ensures in
    let read : List IrqDecl → Option ℕ =
    λ irqs. option_map (λ (d : IrqDecl). d.number) (slice_get irqs c.index.result.now.irq) in
    sym (ap (λ (o : Option Dispatcher). or_zero (then_from (option_map (λ d. d.irq) o) (irq_number app))) there
    ∙ ap or_zero (ap read (sym c.deref.ensures.value) ∙ c.irq_number.ensures))
