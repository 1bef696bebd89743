use Rattle.rt_app.specs.View.{app_of}
use Rattle.rt_baker_moves.proofs.Pending.{rung}
use Rattle.rt_baker_moves.proofs.state.State.ring.Goals as goal

pub returns : goal.returns
returns c =
    rung (app_of c.args.machine.now.code.now.app.now) c.requires.code.accepted c.args.self.now _ c.pend.new.self
    c.timer.result c.self.view_is c.timer.ensures c.in_ok-pend.ensures
