use Rattle.rt_native_laws.proofs.Early.{linked_simulates_from_reset}
use Rattle.rt_native_laws.proofs.FollowingMoves.{linked_simulates}
use Rattle.rt_native_laws.proofs.laws.linked_simulates.Goals as goal

pub returns : goal.returns
returns c = record { behind = linked_simulates; reset = linked_simulates_from_reset }
