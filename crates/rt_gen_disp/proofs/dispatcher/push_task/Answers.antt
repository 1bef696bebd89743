use Rattle.rt_gen_queue.proofs.Vocabulary.{Some, append-nil, map, refl, slice_get, sym, task_of, ◌∙◌, ◌≡◌}
use Rattle.rt_gen_disp.proofs.Generated.{no_task, task_there}
use Rattle.rt_gen_disp.proofs.dispatcher.push_task.Goals.{In-Some}
use Rattle.rt_gen_disp.proofs.dispatcher.push_task.Goals as goal

there : (c : In-Some) → slice_get (map task_of c.args.plan.now.app.now.tasks.items) c.args.number
    ≡ Some (task_of c.in-Some.task.now)
there c =
    task_there c.args.plan.now.app.now c.deref.result.now c.args.number c.in-Some.task.now c.deref.ensures.value
    c.in-Some.ensures.lookup.3.0 c.in-Some.ensures.lookup.1

pub callee_of-requires-clause-task : goal.callee_of-requires-clause-task
callee_of-requires-clause-task c = there (goal.at.callee_of-requires-clause-task c).In-Some

pub returns-then-not-is_of_level-clause-lines : goal.returns-then-not-is_of_level-clause-lines
returns-then-not-is_of_level-clause-lines c =
    let of = there (goal.at.returns-then-not-is_of_level-clause-lines c).In-Some in
    rw (of, sym c.is_of_level.ensures ∙ c.if-not-is_of_level.true)
    (rw append-nil refl)

pub returns-in-None-clause-lines : goal.returns-in-None-clause-lines
returns-in-None-clause-lines c =
    let app = c.args.plan.now.app.now in
    let past = no_task app c.deref.result.now c.args.number c.deref.ensures.value c.in-None.ensures.lookup.3 in
    rw (past, append-nil) refl

pub returns-in_ok-at-in-Some-clause-lines : goal.returns-in_ok-at-in-Some-clause-lines
returns-in_ok-at-in-Some-clause-lines c =
    let sent = rw (c.callee_of.ensures.is, c.next_for-next.ensures, c.from.ensures) at c.push_choice.ensures.lines in
    let pushed = rw (c.in_ok-at-in-Some.ensures.at, c.requires.queue) at sent in
    let of = there (goal.at.returns-in_ok-at-in-Some-clause-lines c).In-Some in
    rw (of, sym c.is_of_level.ensures ∙ c.if-not-is_of_level.false)
    pushed
