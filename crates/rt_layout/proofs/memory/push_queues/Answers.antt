use Rattle.std.proofs.Common.{ap, ◌∙◌}
use Rattle.rt_app.specs.View.{task_of}
use Rattle.rt_app.specs.contracts.layout.Layout.{the_view}
use Rattle.rt_layout.specs.Inside.Growing.{with_queues}
use Rattle.rt_layout.proofs.Growing.{queues_are}
use Rattle.rt_layout.proofs.memory.push_queues.Goals as goal

pub returns : goal.returns
returns c =
    queues_are (the_view c.layout.inside) (task_of c.args.task.now) c.push.new.self.items c.push-2.new.self.items
    c.len-free.result c.len.result c.first_input-inputs.result c.push_free.new.cells.items
    c.push_inputs.new.cells.items (c.len-free.ensures ∙ c.layout.inside.cells.ok.0) c.in_ok-push.ensures.items
    c.in_ok-push_free.ensures (c.len.ensures ∙ c.push_free.new.cells.ok.0) c.first_input-inputs.ensures
    c.in_ok-push-2.ensures.items c.in_ok-push_inputs.ensures
    ∙ ap (λ l. with_queues l (task_of c.args.task.now)) c.layout.view_is
