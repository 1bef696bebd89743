use Rattle.std.proofs.Common.{ℕ, [], ◌∷◌, ap, ◌∙◌}
use Rattle.rt_actions.specs.Content.{Message}
use Rattle.rt_ids.specs.declared.ids.Section.TheVariants as section
use Rattle.rt_app.specs.declared.costs.TheConstants.{FREE_COST}
use Rattle.rt_baker_work.specs.declared.action.Action.TheVariants as action
use Rattle.rt_baker_work.specs.declared.todo.Todo.TheVariants as todo
use Rattle.rt_baker_work.proofs.Walks.{with_todos, two_more}
use Rattle.rt_baker_work.proofs.statement.ask.Goals as goal

pub returns : goal.returns
returns c =
    two_more c.args.work.now c.push.new.self c.push-2.new.self _ _ c.in_ok-push.ensures c.in_ok-push-2.ensures
    ∙ ap (λ (n : ℕ). with_todos c.args.work.now (todo.Place c.args.variable c.args.delay c.args.message ∷ todo.Act
    (action.Enter (section.Free n) FREE_COST) ∷ []))
    (ap (λ (m : Message). m.task) c.message.view_is)
