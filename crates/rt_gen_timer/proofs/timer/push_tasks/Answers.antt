use Rattle.rt_gen_queue.proofs.Vocabulary.{arith, length-map, refl, task_of}
use Rattle.rt_lemmas.proofs.Lists.{mapped_read}
use Rattle.rt_gen_timer.proofs.Choosing.{begun, choices_all, choices_next}
use Rattle.rt_gen_timer.proofs.timer.push_tasks.Goals as goal

pub loop-number-init : goal.loop-number-init
loop-number-init c = refl

pub loop-number-preserved : goal.loop-number-preserved
loop-number-preserved c =
    choices_next (begun c.args.plan.now.app.now c.args.threshold c.args.lines.now) c.loop-number.number
    c.loop-number.lines
    (mapped_read task_of c.args.plan.now.app.now.tasks.items c.loop-number.number c.index-task.result.now (omega arith)
    c.index-task.ensures) c.loop-number.invariant c.in_ok-push_task.ensures

pub push_task-requires-clause-task : goal.push_task-requires-clause-task
push_task-requires-clause-task c =
    mapped_read task_of c.args.plan.now.app.now.tasks.items c.loop-number.number c.index-task.result.now (omega arith)
    c.index-task.ensures

pub push_task-requires-clause-small : goal.push_task-requires-clause-small
push_task-requires-clause-small c =
    omega (arith, c.requires.accepted.limits.few_tasks, length-map c.args.plan.now.app.now.tasks.items task_of)

pub returns : goal.returns
returns c =
    choices_all (begun c.args.plan.now.app.now c.args.threshold c.args.lines.now) c.loop-number.number
    (omega (arith, length-map c.args.plan.now.app.now.tasks.items task_of)) c.loop-number.invariant
