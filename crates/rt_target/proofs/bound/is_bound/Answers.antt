use Rattle.std.proofs.Common.{◌==◌, sym, ap, ◌∙◌}
use Rattle.std.specs.List.{list_any}
use Rattle.rt_ids.specs.Lists.{is_some_and}
use Rattle.rt_ids.proofs.Lists.{list_any-map}
use Rattle.rt_app.specs.View.{task_of, app_of}
use Rattle.rt_app.specs.Handlers.{bound_number}
use Rattle.rt_target.proofs.bound.is_bound.Goals as goal

pub returns : goal.returns
returns c =
    let app = app_of c.args.app.now in
    c.one_binds.ensures ∙ ap (list_any (λ t. is_some_and (λ n. n == c.args.irq) (bound_number app (task_of t))))
    c.deref.ensures.value
    ∙ sym (list_any-map task_of (λ t. is_some_and (λ n. n == c.args.irq)
    (bound_number app t)) c.args.app.now.tasks.items)
