use Rattle.std.proofs.Common.{List, Option, Some, set, sym, ap, subst, ◌∙◌, ◌+◌, get_or, arith}
use Rattle.std.proofs.lemmas.Option.{slice_get-get_or}
use Rattle.rt_app.specs.View.{app_of}
use Rattle.rt_app.proofs.Sound.{accepted_are_sound}
use Rattle.rt_code.specs.declared.image.Handler.{Handler}
use Rattle.rt_build.specs.Inside.Code.{entries_of}
use Rattle.rt_build.specs.Inside.Tables.{HasHandlers}
use Rattle.rt_build.proofs.Levels.{as_many, level_at}
use Rattle.rt_build.proofs.Served.{next_served, declared_irq}
use Rattle.rt_build.proofs.Services.{served_below, level_service, behind_level, level_between, level_more}
use Rattle.rt_build.proofs.Services.{no_levels, all_levels}
use Rattle.rt_build.proofs.tables.serve_levels.Goals as goal

pub loop-index-init : goal.loop-index-init
loop-index-init c =
    let app = app_of c.args.plan.now.app.now in
    subst (λ ss. HasHandlers app (entries_of app c.args.code.now) ss c.args.handlers.now) (no_levels app)
    c.requires.tasks

pub dispatcher-requires-clause-level : goal.dispatcher-requires-clause-level
dispatcher-requires-clause-level c =
    let rows = c.deref-row-items.ensures.value ∙ ap (λ p. p.ceil.ready) c.plan.view_is in
    level_at c.args.plan.now c.requires.plan.planned c.deref-row-items.result.now rows c.loop-index.index
    (get_or c.deref-row-items.result.now c.loop-index.index (record { level = 0; ceiling = 0 }))
    (slice_get-get_or c.deref-row-items.result.now c.loop-index.index (record { level = 0; ceiling = 0 })
    c.loop-index-test.true)

pub bounds-handlers-from : goal.bounds-handlers-from
bounds-handlers-from c =
    let app = app_of c.args.plan.now.app.now in
    let rows = c.deref-row-items.ensures.value ∙ ap (λ p. p.ceil.ready) c.plan.view_is in
    let row = get_or c.deref-row-items.result.now c.loop-index.index (record { level = 0; ceiling = 0 }) in
    let there = level_at c.args.plan.now c.requires.plan.planned c.deref-row-items.result.now rows c.loop-index.index
    row
    (slice_get-get_or c.deref-row-items.result.now c.loop-index.index (record { level = 0; ceiling = 0 })
    c.loop-index-test.true) in
    let irq = c.dispatcher_irq-irq.result in
    let served = c.dispatcher_irq-irq.ensures row.level there in
    let declared = declared_irq app (accepted_are_sound app c.requires.plan.accepted)
    (served_below app c.loop-index.index) (behind_level app c.loop-index.index row.level irq there served)
    (level_service app c.loop-index.index row.level irq there served)
    (level_between app c.loop-index.index row.level irq there served) in
    omega (arith, declared, c.loop-index.invariant.long, c.from.ensures)

pub loop-index-preserved : goal.loop-index-preserved
loop-index-preserved c =
    let app = app_of c.args.plan.now.app.now in
    let at = entries_of app c.args.code.now in
    let k = c.loop-index.index in
    let rows = c.deref-row-items.ensures.value ∙ ap (λ p. p.ceil.ready) c.plan.view_is in
    let row = get_or c.deref-row-items.result.now k (record { level = 0; ceiling = 0 }) in
    let there = level_at c.args.plan.now c.requires.plan.planned c.deref-row-items.result.now rows k row
    (slice_get-get_or c.deref-row-items.result.now k (record { level = 0; ceiling = 0 }) c.loop-index-test.true) in
    let irq = c.dispatcher_irq-irq.result in
    let served = c.dispatcher_irq-irq.ensures row.level there in
    let table = c.loop-index.handlers in
    subst (λ (handlers : List (Option Handler)). HasHandlers app at (served_below app (k + 1)) handlers)
    (sym (ap (λ n. set table n (Some c.dispatcher.result)) c.from.ensures
    ∙ ap (λ h. set table irq (Some h)) c.dispatcher.ensures))
    (next_served app at (accepted_are_sound app c.requires.plan.accepted) (served_below app k)
    (behind_level app k row.level irq there served) (served_below app (k + 1))
    (level_service app k row.level irq there served) table (level_between app k row.level irq there served)
    (level_more app k row.level irq there served) c.loop-index.invariant)

pub returns : goal.returns
returns c =
    let app = app_of c.args.plan.now.app.now in
    let rows = c.deref-row-items.ensures.value ∙ ap (λ p. p.ceil.ready) c.plan.view_is in
    subst (λ ss. HasHandlers app (entries_of app c.args.code.now) ss c.loop-index.handlers)
    (all_levels app c.loop-index.index (omega (
      arith,
      as_many c.args.plan.now c.requires.plan.planned c.deref-row-items.result.now rows,
    )))
    c.loop-index.invariant
