use Rattle.rt_gen_queue.proofs.Vocabulary.{and_left, ap, app_of, is_armed, is_software, is_some_and, next_address}
use Rattle.rt_gen_queue.proofs.Vocabulary.{task_of, ◌∙◌}
use Rattle.rt_gen_timer.proofs.Choosing.{not_fired, same_choice}
use Rattle.rt_gen_timer.proofs.timer.push_task.Goals as goal

pub armed_task-requires-clause-software : goal.armed_task-requires-clause-software
armed_task-requires-clause-software c =
    ap (is_some_and is_software) c.requires.task
    ∙ and_left (is_software (task_of c.args.task.now)) (is_armed (app_of c.args.plan.now.app.now) c.args.number)
    (same_choice c.args.number (task_of c.args.task.now) c.may_fire.ensures c.requires.rows c.if-not-may_fire.false)

pub returns-then-not-may_fire : goal.returns-then-not-may_fire
returns-then-not-may_fire c =
    not_fired (app_of c.args.plan.now.app.now) c.args.threshold (next_address c.args.lines.now) c.args.number
    (task_of c.args.task.now) c.args.lines.now
    (same_choice c.args.number (task_of c.args.task.now) c.may_fire.ensures c.requires.rows c.if-not-may_fire.true)

pub returns : goal.returns
returns c =
    rw (same_choice c.args.number (task_of c.args.task.now) c.may_fire.ensures c.requires.rows c.if-not-may_fire.false)
    (rw (c.requires.emitter, c.armed_task.ensures.is, c.in_ok-at.ensures.at) at c.push_choice.ensures)
