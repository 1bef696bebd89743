use Rattle.std.proofs.Common.{◌∷◌, [], ◌++◌, ℕ, List, ap, ◌∙◌, sym, replicate}
use Rattle.rt_app.specs.View.{block_of, body_of, app_of}
use Rattle.rt_app.specs.Variables.{variables}
use Rattle.rt_baker_work.specs.declared.todo.Todo.TheVariants as todo
use Rattle.rt_baker_work.proofs.Walks.{made}
use Rattle.rt_baker_work.proofs.Beginning.{begun, not_begun, task_found, none_found}
use Rattle.rt_baker_work.proofs.Weights.{begun_light}
use Rattle.rt_baker_work.proofs.begin.begin.Goals as goal

pub returns-in-None-clause-same : goal.returns-in-None-clause-same
returns-in-None-clause-same c =
    not_begun (app_of c.args.app.now) c.args.message c.args.work.now
    (none_found c.args.app.now.tasks.items c.task.result c.task-number.result c.args.message.task c.task.ensures
    c.task-number.ensures c.in-None.is)

pub returns-in_ok-begin-in-Some-clause-same : goal.returns-in_ok-begin-in-Some-clause-same
returns-in_ok-begin-in-Some-clause-same c =
    begun (app_of c.args.app.now) c.args.message (body_of c.in-Some.task.now.body) c.as_slice.result
    c.args.work.now c.begin.new.self
    (task_found c.args.app.now.tasks.items c.task.result c.task-number.result c.args.message.task c.in-Some.task
    c.task.ensures c.task-number.ensures c.in-Some.is)
    (sym (ap block_of c.as_slice.ensures.value))
    (c.in_ok-begin-in-Some.ensures
    ∙ ap (λ (xs : List ℕ). made (c.args.work.now.todos ++ todo.Run c.as_slice.result ∷ []) (xs ++ replicate
    (variables (block_of c.as_slice.result.now)) 0)) c.into_args.ensures)

pub returns-in_ok-begin-in-Some-clause-lighter : goal.returns-in_ok-begin-in-Some-clause-lighter
returns-in_ok-begin-in-Some-clause-lighter c =
    begun_light (app_of c.args.app.now) c.args.message (body_of c.in-Some.task.now.body) c.as_slice.result
    c.args.work.now c.begin.new.self (c.into_args.result.items ++ replicate (variables (block_of
    c.as_slice.result.now)) 0)
    (task_found c.args.app.now.tasks.items c.task.result c.task-number.result c.args.message.task c.in-Some.task
    c.task.ensures c.task-number.ensures c.in-Some.is)
    (sym (ap block_of c.as_slice.ensures.value)) c.in_ok-begin-in-Some.ensures
