use Rattle.rt_respond_laws.proofs.RoomLaw.{runs_have_room}
use Rattle.rt_respond_laws.proofs.laws.runs_have_room.Goals as goal

pub returns : goal.returns
returns c = runs_have_room
