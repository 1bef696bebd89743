use Rattle.rt_native_laws.proofs.Following.{native_simulates}
use Rattle.rt_native_laws.proofs.laws.native_simulates.Goals as goal

pub returns : goal.returns
returns c = native_simulates
