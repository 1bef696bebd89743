use Rattle.rt_native_laws.proofs.Returns.{ret_is_done}
use Rattle.rt_native_laws.proofs.laws.returns_are_done.Goals as goal

pub returns : goal.returns
returns c = ret_is_done
