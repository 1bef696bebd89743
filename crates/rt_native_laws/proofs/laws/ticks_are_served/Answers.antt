use Rattle.rt_native_laws.proofs.Ticking.{tick_is_served}
use Rattle.rt_native_laws.proofs.laws.ticks_are_served.Goals as goal

pub returns : goal.returns
returns c = tick_is_served
