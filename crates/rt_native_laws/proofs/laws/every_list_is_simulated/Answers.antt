use Rattle.rt_native_laws.proofs.Throughout.{every_list_is_simulated}
use Rattle.rt_native_laws.proofs.laws.every_list_is_simulated.Goals as goal

pub returns : goal.returns
returns c = every_list_is_simulated
