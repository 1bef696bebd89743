use Rattle.std.proofs.Common.{get_or}
use Rattle.std.proofs.lemmas.List.{get_or_default}
use Rattle.rt_app.specs.declared.ceilings.ReadyCeiling.{ReadyCeiling}
use Rattle.rt_app.specs.Level.{levels}
use Rattle.rt_app.specs.View.{app_of}
use Rattle.rt_baker_moves.proofs.Serving.{level_served}
use Rattle.rt_baker_moves.proofs.served.served_dispatcher.Goals as goal

pub returns-then-dispatches : goal.returns-then-dispatches
returns-then-dispatches c =
    let app = app_of c.args.app.now in
    let none : ReadyCeiling = record { level = 0; ceiling = 0 } in
    let row = get_or c.args.rows.now c.loop-row.row-index none in
    level_served app c.args.irq c.args.rows.now c.loop-row.row-index row c.dispatches.result
    c.dispatcher_cost.result (levels app) c.loop-row-test.true (get_or_default c.args.rows.now c.loop-row.row-index
    none row c.loop-row-test.true) c.dispatches.ensures c.if-dispatches.true c.dispatcher_cost.ensures
    c.loop-row.invariant
