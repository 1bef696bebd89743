use Rattle.std.proofs.Common.{codes, decimal, ap}
use Rattle.rt_ast.specs.CanonicalOptions.{priority_option_text}
use Rattle.rt_print.proofs.OpenText.{one_opened}
use Rattle.rt_print.proofs.options.push_priority.Goals as goal

pub returns-in_ok-push_number-in-Some-clause-text :
    goal.returns-in_ok-push_number-in-Some-clause-text
returns-in_ok-push_number-in-Some-clause-text c =
    one_opened c.args.opened c.args.out.now.items c.push_opening.new.out.items c.push_bytes.new.out.items
    c.push_number.new.out.items (codes "priority = ") (decimal c.in-Some.number.value)
    (priority_option_text c.args.priority.now)
    (ap priority_option_text c.in-Some.is) c.in_ok-push_opening-in-Some.ensures c.in_ok-push_bytes-in-Some.ensures
    c.in_ok-push_number-in-Some.ensures
