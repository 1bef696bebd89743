use Rattle.rt_thumb_laws.proofs.laws.entries_write_their_frame.Goals as goal
use Rattle.rt_thumb_laws.proofs.Frames as frames

pub returns : goal.returns
returns c = frames.entries_write_their_frame
