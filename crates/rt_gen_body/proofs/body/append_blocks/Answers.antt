use Rattle.rt_gen_queue.proofs.Vocabulary.{Appends, OnOk, accepted_are_sound, ap, app_of, next_address, option_map}
use Rattle.rt_gen_queue.proofs.Vocabulary.{subst, sym, task_of}
use Rattle.rt_app.specs.View.{body_of}
use Rattle.rt_frames.proofs.Reaching.{idle_reached, task_reached}
use Rattle.rt_gen_body.proofs.Generated.{appends_none, init_reached, no_task, task_code, task_found, task_limits}
use Rattle.rt_gen_body.proofs.Generated.{task_not_found}
use Rattle.rt_gen_body.proofs.body.append_blocks.Goals as goal

pub blocks-requires-in-Some-task-clause-few : goal.blocks-requires-in-Some-task-clause-few
blocks-requires-in-Some-task-clause-few c =
    let there = task_found c.args.plan.now.app.now c.in-Task.number c.in-Some-task.task.now c.in-Some-task.ensures in
    (task_limits c.args.plan.now.app.now c.requires.accepted c.in-Task.number c.in-Some-task.task.now there).args

pub blocks-requires-in-Some-task-clause-limits : goal.blocks-requires-in-Some-task-clause-limits
blocks-requires-in-Some-task-clause-limits c =
    let there = task_found c.args.plan.now.app.now c.in-Task.number c.in-Some-task.task.now c.in-Some-task.ensures in
    (task_limits c.args.plan.now.app.now c.requires.accepted c.in-Task.number c.in-Some-task.task.now there).body

pub returns-in-Some-task : goal.returns-in-Some-task
returns-in-Some-task c =
    let there = task_found c.args.plan.now.app.now c.in-Task.number c.in-Some-task.task.now c.in-Some-task.ensures in
    subst (λ lines. OnOk c.blocks-in-Some-task.result (Appends c.args.lines.now c.blocks-in-Some-task.new.lines lines))
    (task_code c.args.plan.now.app.now c.args.guards.now c.args.id c.in-Some-task.task.now
    (next_address c.args.lines.now) c.requires.guards c.in-Task.is there)
    c.blocks-in-Some-task.ensures

pub returns-in-None-task : goal.returns-in-None-task
returns-in-None-task c =
    let absent = task_not_found c.args.plan.now.app.now c.in-Task.number c.in-None-task.ensures in
    subst (λ lines. Appends c.args.lines.now c.args.lines.now lines)
    (sym (no_task c.args.plan.now.app.now c.args.id c.in-Task.number (next_address c.args.lines.now) c.in-Task.is
    absent))
    (appends_none c.args.lines.now)

pub blocks-requires-clause-reached : goal.blocks-requires-clause-reached
blocks-requires-clause-reached c =
    init_reached c.args.plan.now.app.now c.requires.accepted c.in-Some.body c.in-Some.is

pub blocks-requires-in-Some-idle-clause-reached : goal.blocks-requires-in-Some-idle-clause-reached
blocks-requires-in-Some-idle-clause-reached c =
    let app = app_of c.args.plan.now.app.now in
    idle_reached app (accepted_are_sound app c.requires.accepted) (body_of c.in-Some-idle.body)
    (ap (option_map body_of) c.in-Some-idle.is)

pub blocks-requires-in-Some-task-clause-reached : goal.blocks-requires-in-Some-task-clause-reached
blocks-requires-in-Some-task-clause-reached c =
    let app = app_of c.args.plan.now.app.now in
    let there = task_found c.args.plan.now.app.now c.in-Task.number c.in-Some-task.task.now c.in-Some-task.ensures in
    task_reached app (accepted_are_sound app c.requires.accepted) c.in-Task.number (task_of c.in-Some-task.task.now)
    there
