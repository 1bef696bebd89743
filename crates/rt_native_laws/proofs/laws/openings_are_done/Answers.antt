use Rattle.rt_native_laws.proofs.Opening.{opening_is_done}
use Rattle.rt_native_laws.proofs.laws.openings_are_done.Goals as goal

pub returns : goal.returns
returns c = opening_is_done
