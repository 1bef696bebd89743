use Rattle.std.proofs.Common.{List, [], ◌∷◌, ◌++◌, Option, length, map, take, sym, ap, ◌∙◌, arith}
use Rattle.std.specs.List.{zip}
use Rattle.std.proofs.lemmas.List.{map_push, length_push, take_all}
use Rattle.std.proofs.lemmas.Slice.Zip.{zip_turn, zip_end, length-zip}
use Rattle.rt_app.specs.declared.app.IrqDecl.{IrqDecl}
use Rattle.rt_code.specs.declared.image.Handler.{Handler}
use Rattle.rt_code.specs.declared.image.IrqRow.{IrqRow}
use Rattle.rt_build.specs.Inside.Tables.{irq_row}
use Rattle.rt_build.proofs.Served.{zip_next}
use Rattle.rt_build.proofs.tables.irq_rows.Goals as goal

abbrev rows_of : List (IrqDecl × Option Handler) → List IrqRow
rows_of ps = map (λ (irq, handler). irq_row irq handler) ps

pub loop-irq-preserved : goal.loop-irq-preserved
loop-irq-preserved c =
    let turn = zip_turn c.args.irqs.now c.args.handlers.now c.loop-irq.yielded c.into_iter-irq-iterator.result
    c.loop-irq.irq-iterator c.next.new.self c.next.result (cc) (cc) c.loop-irq.yielded_by
    (c.in-Some.irq, c.in-Some.handler) c.in-Some.is c.next.ensures.steps in
    let n = length c.loop-irq.yielded in
    let pairs = zip c.args.irqs.now c.args.handlers.now in
    let more = zip_next c.args.irqs.now c.args.handlers.now n c.in-Some.irq.now c.in-Some.handler.now turn.0 turn.1
    (turn.2 c.in-Some.irq.now) (turn.3 c.in-Some.handler.now) in
    c.in_ok-push.ensures.items
    ∙ (ap (λ (rows : List IrqRow). rows ++ c.in_ok-irq_row.field-0 ∷ []) c.loop-irq.invariant
    ∙ (ap (λ (row : IrqRow). rows_of (take n pairs) ++ row ∷ []) c.in_ok-irq_row.ensures
    ∙ (sym (map_push (λ (irq, handler). irq_row irq handler) (take n pairs) (c.in-Some.irq.now, c.in-Some.handler.now))
    ∙ (ap rows_of (sym more) ∙ ap (λ k. rows_of (take k pairs))
    (sym (length_push c.loop-irq.yielded (c.in-Some.irq, c.in-Some.handler)))))))

pub returns : goal.returns
returns c =
    let end = zip_end c.args.irqs.now c.args.handlers.now c.loop-irq.yielded c.into_iter-irq-iterator.result
    c.loop-irq.irq-iterator c.next.new.self c.next.result (cc) (cc) c.loop-irq.yielded_by c.in-None.is
    c.next.ensures.steps in
    let pairs = zip c.args.irqs.now c.args.handlers.now in
    c.loop-irq.invariant ∙ ap rows_of
    (take_all (length c.loop-irq.yielded) pairs (omega (arith, end, length-zip c.args.irqs.now c.args.handlers.now)))
