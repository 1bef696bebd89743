use Rattle.std.proofs.Common.{sym, ap, ◌∙◌, ◌&&◌, not}
use Rattle.std.specs.List.{list_any}
use Rattle.rt_ids.proofs.Lists.{list_any-map}
use Rattle.rt_app.specs.View.{task_of, app_of}
use Rattle.rt_frames.proofs.NoPend.{none_is}
use Rattle.rt_respond.specs.Form.{dispatcher_is_pended}
use Rattle.rt_respond.proofs.form.is_of_form.Goals as goal

pub returns-then-is_none : goal.returns-then-is_none
returns-then-is_none c =
    let app = app_of c.args.app.now in
    ap not (c.dispatchers_are_pended.ensures
    ∙ ap (list_any (λ t. dispatcher_is_pended app (task_of t))) c.deref.ensures.value
    ∙ sym (list_any-map task_of (dispatcher_is_pended app) c.args.app.now.tasks.items))
    ∙ sym (ap (λ b. b && not (list_any (dispatcher_is_pended app) app.tasks))
    (sym (none_is c.args.app.now.mono c.is_none.result c.is_none.ensures) ∙ c.if-is_none.true))
