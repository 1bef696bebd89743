use Rattle.rt_ast.specs.View.{body_of}
use Rattle.rt_ast.specs.CanonicalOptions.{binds_option_text, priority_option_text, capacity_option_text, body_options}
use Rattle.rt_print.proofs.OpenText.{options_of_task}
use Rattle.rt_print.proofs.options.push_task_options.Goals as goal

pub returns : goal.returns
returns c =
    let t = c.args.task.now in
    options_of_task c.push_rest.result c.in_ok-bound.bound c.in_ok-before.before c.in_ok-opened.opened
    c.args.out.now.items c.push_binds.new.out.items c.push_priority.new.out.items c.push_capacity.new.out.items
    c.push_rest.new.out.items
    (binds_option_text t.binds) (priority_option_text t.priority) (capacity_option_text t.capacity)
    (body_options (body_of t.body))
    c.in_ok-bound.ensures.text c.in_ok-bound.ensures.any c.in_ok-before.ensures.text c.in_ok-before.ensures.any
    c.in_ok-opened.ensures.text c.in_ok-opened.ensures.any c.push_rest.ensures
