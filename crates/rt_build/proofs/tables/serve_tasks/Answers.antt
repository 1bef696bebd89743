use Rattle.std.proofs.Common.{List, Option, Some, set, take, sym, ap, subst, ◌∙◌, ◌+◌, arith}
use Rattle.std.proofs.lemmas.List.{length-map}
use Rattle.rt_app.specs.Handlers.{task_services}
use Rattle.rt_app.specs.View.{app_of, task_of}
use Rattle.rt_app.proofs.Sound.{accepted_are_sound}
use Rattle.rt_code.specs.declared.image.Handler.{Handler}
use Rattle.rt_gen_body.proofs.Generated.{task_there}
use Rattle.rt_build.specs.Inside.Code.{entries_of}
use Rattle.rt_build.specs.Inside.Tables.{HasHandlers}
use Rattle.rt_build.proofs.Served.{next_served}
use Rattle.rt_build.proofs.Services.{its_service, behind_task, task_between, task_more, task_free, all_tasks}
use Rattle.rt_build.proofs.tables.serve_tasks.Goals as goal
use Rattle.rt_build.proofs.tables.serve_tasks.Goals.{in-Some, in_default}

pub loop-number-preserved : goal.loop-number-preserved
loop-number-preserved c =
    let app = app_of c.args.plan.now.app.now in
    let at = entries_of app c.args.code.now in
    let sound = accepted_are_sound app c.requires.plan.accepted in
    let n = c.loop-number.number in
    let t = task_of c.task-item.result in
    let table = c.loop-number.handlers in
    let before = task_services 0 (take n app.tasks) in
    let more = task_services 0 (take (n + 1) app.tasks) in
    let there = task_there c.args.plan.now.app.now c.deref-task-items.result.now n c.task-item.result
    c.deref-task-items.ensures.value c.loop-number-test.true c.task-item.is in
    elim c.match-task.branch [
      | in-Some w ↦ subst (λ (handlers : List (Option Handler)). HasHandlers app at more handlers)
          (sym (w.handlers-is ∙ (ap (λ k. set table k (Some w.handler.result)) w.from.ensures
          ∙ ap (λ h. set table w.in-Some.irq (Some h)) w.handler.ensures)))
          (next_served app at sound before (behind_task app n t w.in-Some.irq there w.in-Some.is) more
          (its_service app n t w.in-Some.irq there w.in-Some.is) table
          (task_between app n t w.in-Some.irq there w.in-Some.is) (task_more app n t w.in-Some.irq there w.in-Some.is)
          c.loop-number.invariant)
      | in_default w ↦ subst (λ (handlers : List (Option Handler)). HasHandlers app at more handlers)
          (sym w.handlers-is)
          (subst (λ ss. HasHandlers app at ss table) (sym (task_free app n t there w.in_default.is))
          c.loop-number.invariant)
    ]

pub returns : goal.returns
returns c =
    let app = app_of c.args.plan.now.app.now in
    subst (λ ss. HasHandlers app (entries_of app c.args.code.now) ss c.loop-number.handlers)
    (all_tasks app c.loop-number.number (omega
    (arith, length-map c.args.plan.now.app.now.tasks.items task_of, c.deref-task-items.ensures.len)))
    c.loop-number.invariant
