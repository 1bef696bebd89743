use Rattle.std.proofs.Common.{List, ◌∷◌, [], ◌++◌, sym, ap, ◌∙◌, arith}
use Rattle.std.proofs.lemmas.List.{length-map, take_all}
use Rattle.rt_app.specs.View.{app_of, task_of}
use Rattle.rt_code.specs.declared.image.BodyRow.{BodyRow}
use Rattle.rt_gen_body.proofs.Generated.{task_there}
use Rattle.rt_gen_queue.specs.Called.{row_for, rows_for}
use Rattle.rt_build.specs.Inside.Code.{entries_of}
use Rattle.rt_build.proofs.BodyRows.{next_row, no_row}
use Rattle.rt_build.proofs.bodies.body_rows.Goals as goal
use Rattle.rt_build.proofs.bodies.body_rows.Goals.{then-is_software+in_ok-push, else-is_software}

pub loop-number-preserved : goal.loop-number-preserved
loop-number-preserved c =
    let app = app_of c.args.plan.now.app.now in
    let at = entries_of app c.args.code.now in
    let n = c.loop-number.number in
    let t = task_of c.task-item.result in
    let there = task_there c.args.plan.now.app.now c.deref-task-items.result.now n c.task-item.result
    c.deref-task-items.ensures.value c.loop-number-test.true c.task-item.is in
    let kind = sym c.is_software.ensures in
    elim c.if-is_software.branch [
      | then-is_software+in_ok-push w ↦ ap (λ rows. rows.items) w.rows-is ∙ (w.in_ok-push.ensures.items
          ∙ (ap (λ (row : BodyRow). c.loop-number.rows.items ++ row ∷ []) w.body_row.ensures
          ∙ (ap (λ (rows : List BodyRow). rows ++ row_for at.task n t ∷ []) c.loop-number.invariant
          ∙ sym (next_row app at n t there (kind ∙ w.if-is_software.true)))))
      | else-is_software w ↦ ap (λ rows. rows.items) w.rows-is ∙ (c.loop-number.invariant
          ∙ sym (no_row app at n t there (kind ∙ w.if-is_software.false)))
    ]

pub returns : goal.returns
returns c =
    let app = app_of c.args.plan.now.app.now in
    c.loop-number.invariant ∙ ap (rows_for (entries_of app c.args.code.now).task 0)
    (take_all c.loop-number.number app.tasks (omega
    (arith, length-map c.args.plan.now.app.now.tasks.items task_of, c.deref-task-items.ensures.len)))
