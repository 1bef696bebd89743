use Rattle.rt_frames.proofs.Flagging.{none_flagged}
use Rattle.rt_frames.proofs.flags.none.Goals as goal

pub returns : goal.returns
returns c = none_flagged
