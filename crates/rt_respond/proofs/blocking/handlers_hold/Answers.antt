use Rattle.std.proofs.Common.{sym, ap, ◌∙◌, map, take}
use Rattle.rt_app.specs.View.{app_of}
use Rattle.rt_respond.specs.Number.{greater_of, greatest_of}
use Rattle.rt_respond.specs.Inside.Holding.{with_transit, whole_handler}
use Rattle.rt_respond.proofs.Holding.{greatest_more}
use Rattle.rt_respond.proofs.blocking.handlers_hold.Goals as goal

pub loop-handler-preserved : goal.loop-handler-preserved
loop-handler-preserved c =
    let held = c.args.held.now in
    let of = whole_handler (app_of c.args.app.now) held in
    let front = take c.loop-handler.handler-index held.all.handlers.now in
    c.greater_of-most.ensures ∙ ap (λ a. greater_of a c.with_transit.result) c.loop-handler.invariant
    ∙ ap (greater_of (greatest_of (map of front)))
    (c.with_transit.ensures
    ∙ ap (with_transit held.transit.now c.handler-item.result.priority) c.handler_holds-own.ensures)
    ∙ sym (greatest_more of held.all.handlers.now c.loop-handler.handler-index c.handler-item.result
    c.loop-handler-test.true c.handler-item.is)
