use Rattle.std.proofs.Common.{refl, ap, ◌∙◌, arith}
use Rattle.rt_actions.specs.Content.{Message}
use Rattle.rt_app.specs.View.{app_of}
use Rattle.rt_app.specs.Bodies.{task_priority}
use Rattle.rt_baker_work.proofs.Pushing.{four_more, readied}
use Rattle.rt_baker_work.proofs.Weights.{pushed_light}
use Rattle.rt_baker_work.proofs.sending.make_ready.Goals as goal

pub returns-clause-same : goal.returns-clause-same
returns-clause-same c =
    let app = app_of c.args.code.now.app.now in
    readied app c.args.message c.priority-level.result c.dispatcher.result c.args.work.now c.push-4.new.self
    (c.priority-level.ensures ∙ ap (λ (m : Message). task_priority app m.task) c.message.view_is) c.dispatcher.ensures
    (four_more c.args.work.now c.push.new.self c.push-2.new.self c.push-3.new.self c.push-4.new.self _ _ _ _
    c.in_ok-push.ensures c.in_ok-push-2.ensures c.in_ok-push-3.ensures c.in_ok-push-4.ensures)

pub returns-clause-lighter : goal.returns-clause-lighter
returns-clause-lighter c =
    let app = app_of c.args.code.now.app.now in
    omega (
      arith,
      pushed_light app c.args.work.now c.push.new.self _ 0 c.in_ok-push.ensures refl,
      pushed_light app c.push.new.self c.push-2.new.self _ 0 c.in_ok-push-2.ensures refl,
      pushed_light app c.push-2.new.self c.push-3.new.self _ 0 c.in_ok-push-3.ensures refl,
      pushed_light app c.push-3.new.self c.push-4.new.self _ 0 c.in_ok-push-4.ensures refl,
    )
