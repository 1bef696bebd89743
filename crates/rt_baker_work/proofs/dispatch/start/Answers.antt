use Rattle.std.proofs.Common.{[], ◌∷◌, ap, ◌∙◌}
use Rattle.rt_actions.specs.Content.{Message}
use Rattle.rt_app.specs.View.{app_of}
use Rattle.rt_baker_work.specs.declared.action.Action.TheVariants as action
use Rattle.rt_baker_work.specs.declared.todo.Todo.TheVariants as todo
use Rattle.rt_baker_work.proofs.Walks.{with_todos}
use Rattle.rt_baker_work.proofs.Beginning.{message_started}
use Rattle.rt_baker_work.proofs.Weights.{message_light}
use Rattle.rt_baker_work.proofs.dispatch.start.Goals as goal

pub returns-clause-same : goal.returns-clause-same
returns-clause-same c =
    λ rest is.
    message_started (app_of c.args.code.now.app.now) c.args.level c.args.oldest.now c.args.is_last c.args.work.now
    c.serve.new.work c.push.new.self c.repost.new.work c.push-2.new.self c.in_ok-serve.ensures
    c.in_ok-push.ensures c.in_ok-repost.ensures
    (c.in_ok-push-2.ensures ∙ ap (λ (m : Message). with_todos c.repost.new.work (todo.Act (action.Start
    c.args.level m) ∷ [])) c.in_ok-started.ensures) rest is

pub returns-clause-lighter : goal.returns-clause-lighter
returns-clause-lighter c =
    message_light (app_of c.args.code.now.app.now) c.args.level c.args.oldest.now c.in_ok-started.started
    c.args.is_last c.args.work.now c.serve.new.work c.push.new.self c.repost.new.work c.push-2.new.self
    c.in_ok-serve.ensures c.in_ok-push.ensures c.in_ok-repost.ensures c.in_ok-push-2.ensures
