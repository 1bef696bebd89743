use Rattle.std.proofs.Common.{◌∙◌, ap, arith}
use Rattle.rt_app.specs.BodyCost.{body_cost}
use Rattle.rt_app.specs.Cost.{Measure}
use Rattle.rt_app.specs.View.{body_of}
use Rattle.rt_baker_moves.proofs.Serving.{task_served}
use Rattle.rt_baker_moves.proofs.served.hardware.Goals as goal

pub returns-then-binds : goal.returns-then-binds
returns-then-binds c =
    task_served c.args.app.now c.args.irq c.loop-number.number c.index-task.result.now c.binds.result c.from.result
    (omega arith) c.index-task.ensures c.binds.ensures c.if-binds.true
    (c.from.ensures ∙ c.body.ensures
    ∙ ap (λ (m : Measure). body_cost m (body_of c.index-task.result.now.body)) c.requires.measured)
    c.loop-number.invariant
