use Rattle.rt_baker_work.specs.Actions.{action_of}
use Rattle.rt_baker_moves.proofs.Early.{room_behind}
use Rattle.rt_baker_moves.proofs.job.Job.perform.Goals as goal

pub settle-requires-clause-room : goal.settle-requires-clause-room
settle-requires-clause-room c =
    room_behind (action_of c.args.action) c.args.store.now c.effect.new.self c.requires.room c.in_ok-effect.ensures
