use Rattle.std.proofs.Common.{sym, ap, ◌∙◌, position}
use Rattle.rt_ids.proofs.Lists.{position-map}
use Rattle.rt_app.specs.View.{task_of}
use Rattle.rt_respond.specs.Wording.{is_software_named}
use Rattle.rt_respond.proofs.line.software_task.Goals as goal

pub returns-in-None : goal.returns-in-None
returns-in-None c =
    c.in-None.ensures.index ∙ ap (position (λ t. is_software_named c.args.name.now (task_of t))) c.deref.ensures.value
    ∙ sym (position-map task_of (is_software_named c.args.name.now) c.args.app.now.tasks.items)

pub returns-in-Some : goal.returns-in-Some
returns-in-Some c =
    c.in-Some.ensures.index ∙ ap (position (λ t. is_software_named c.args.name.now (task_of t))) c.deref.ensures.value
    ∙ sym (position-map task_of (is_software_named c.args.name.now) c.args.app.now.tasks.items)
