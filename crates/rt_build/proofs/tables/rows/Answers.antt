use Rattle.std.proofs.Common.{List, Option, map, ap, ◌≡◌, ◌∙◌}
use Rattle.std.specs.List.{zip}
use Rattle.std.proofs.lemmas.Result.{IfOk-weaker}
use Rattle.rt_app.specs.View.{app_of}
use Rattle.rt_app.specs.declared.app.IrqDecl.{IrqDecl}
use Rattle.rt_code.specs.declared.image.Handler.{Handler}
use Rattle.rt_code.specs.declared.image.IrqRow.{IrqRow}
use Rattle.rt_build.specs.Entries.{irq_rows}
use Rattle.rt_build.specs.Inside.Code.{entries_of}
use Rattle.rt_build.specs.Inside.Tables.{irq_row}
use Rattle.rt_build.proofs.Served.{rows_are}
use Rattle.rt_build.proofs.tables.rows.Goals as goal

pub returns : goal.returns
returns c =
    let app = app_of c.args.plan.now.app.now in
    let rows : List IrqDecl → List (Option Handler) → List IrqRow =
    λ ds hs. map (λ (irq, handler). irq_row irq handler) (zip ds hs) in
    IfOk-weaker c.irq_rows.result (λ made. made.items ≡ rows c.deref.result.now c.deref-2.result.now)
    (λ made. made.items ≡ irq_rows app (entries_of app c.args.code.now) 0 app.irqs)
    (λ made is. is ∙ (ap (λ (ds : List IrqDecl). rows ds c.deref-2.result.now) c.deref.ensures.value
    ∙ (ap (λ (hs : List (Option Handler)). rows app.irqs hs) c.deref-2.ensures.value
    ∙ rows_are app (entries_of app c.args.code.now) c.in_ok-handlers.handlers.items c.in_ok-handlers.ensures)))
    c.irq_rows.ensures
