use Rattle.rt_app.specs.View.{app_of}
use Rattle.rt_laws.specs.State as laws
use Rattle.rt_baker_work.specs.Code.{handler_of}
use Rattle.rt_baker_work.specs.Handlers.{run_handler}
use Rattle.rt_baker_moves.proofs.Starting.{launched}
use Rattle.rt_baker_moves.proofs.state.State.serve.Goals as goal

pub returns : goal.returns
returns c =
    let app = app_of c.args.code.now.app.now in
    let first = run_handler app (handler_of c.args.served.handler) in
    launched app (laws.Serving c.args.irq) c.from-priority.result c.args.served.priority c.args.served.cost first _
    c.args.self.now c.in_ok-job.job c.begin_job.new.store c.insert.new.self.items c.self.view_is
    c.from-priority.ensures c.in_ok-insert.ensures.items
    (c.in_ok-job.ensures first c.new-work.result c.new-work.ensures (c.in_ok-handle.ensures c.self.inside.store))
