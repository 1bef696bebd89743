use Rattle.rt_baker_moves.proofs.Putting.{put_stands}
use Rattle.rt_baker_moves.proofs.state.State.put.Goals as goal

pub returns : goal.returns
returns c app t h =
    put_stands _ c.args.self.now c.set_local.new.self c.args.local c.args.word c.self.view_is c.set_local.ensures app t
    h
