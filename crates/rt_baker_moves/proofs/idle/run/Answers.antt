use Rattle.std.proofs.Common.{ap, ◌∙◌, sym}
use Rattle.rt_app.specs.Cost.{Measure}
use Rattle.rt_app.specs.BodyCost.{cost_measure, body_cost}
use Rattle.rt_app.specs.View.{block_of, body_of, app_of}
use Rattle.rt_baker_moves.proofs.Idling.{idle_begun, work_begun}
use Rattle.rt_baker_moves.proofs.idle.run.Goals as goal

pub returns : goal.returns
returns c =
    idle_begun (app_of c.args.code.now.app.now) (body_cost (cost_measure (app_of c.args.code.now.app.now)) (body_of
    c.args.body.now)) c.from-cost.result (body_of c.args.body.now) c.as_slice.result c.new-2.result
    c.begin.new.self c.settle.new.work c.args.store.now c.settle.new.store
    (c.from-cost.ensures ∙ c.body.ensures ∙ ap (λ (m : Measure). body_cost m (body_of c.args.body.now))
    c.requires.code.measured)
    (sym (ap block_of c.as_slice.ensures.value))
    (work_begun c.new-work.result c.begin.new.self c.new.result.items c.as_slice.result c.new-work.ensures
    c.new.ensures.items c.in_ok-begin.ensures)
    c.in_ok-settle.ensures.same c.in_ok-settle.ensures.settled c.new-2.ensures
