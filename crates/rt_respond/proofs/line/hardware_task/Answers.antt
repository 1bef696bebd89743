use Rattle.std.proofs.Common.{sym, ap, ◌∙◌, position}
use Rattle.rt_ids.proofs.Lists.{position-map}
use Rattle.rt_app.specs.View.{task_of, app_of}
use Rattle.rt_respond.specs.Wording.{binds_name}
use Rattle.rt_respond.proofs.line.hardware_task.Goals as goal

pub returns-in-None : goal.returns-in-None
returns-in-None c =
    let app = app_of c.args.app.now in
    c.in-None.ensures.index ∙ ap (position (λ t. binds_name app c.args.name.now (task_of t))) c.deref.ensures.value
    ∙ sym (position-map task_of (binds_name app c.args.name.now) c.args.app.now.tasks.items)

pub returns-in-Some : goal.returns-in-Some
returns-in-Some c =
    let app = app_of c.args.app.now in
    c.in-Some.ensures.index ∙ ap (position (λ t. binds_name app c.args.name.now (task_of t))) c.deref.ensures.value
    ∙ sym (position-map task_of (binds_name app c.args.name.now) c.args.app.now.tasks.items)
