use Rattle.std.proofs.Common.{sym, ap, ◌∙◌, ◌||◌}
use Rattle.std.specs.List.{list_any}
use Rattle.rt_ids.proofs.Lists.{list_any-map}
use Rattle.rt_app.specs.View.{task_of, app_of}
use Rattle.rt_respond.specs.Pends.{block_pends}
use Rattle.rt_respond.proofs.pend.is_pended.Goals as goal

pub returns-else-threads_pend : goal.returns-else-threads_pend
returns-else-threads_pend c =
    let app = app_of c.args.app.now in
    c.tasks_pend.ensures ∙ ap (list_any (λ t. block_pends c.args.irq (task_of t).body.block)) c.deref.ensures.value
    ∙ sym (list_any-map task_of (λ t. block_pends c.args.irq t.body.block) c.args.app.now.tasks.items)
    ∙ sym (ap (λ a. a || list_any (λ t. block_pends c.args.irq t.body.block) app.tasks)
    (sym c.threads_pend.ensures ∙ c.if-threads_pend.false))
