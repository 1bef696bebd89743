use Rattle.rt_thumb_laws.proofs.laws.returns_give_back.Goals as goal
use Rattle.rt_thumb_laws.proofs.Returning as returning

pub returns : goal.returns
returns c = returning.returns_give_back
