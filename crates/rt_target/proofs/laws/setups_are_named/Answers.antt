use Rattle.rt_target.proofs.Named.{setups_are_named}
use Rattle.rt_target.proofs.laws.setups_are_named.Goals as goal

pub returns : goal.returns
returns c = setups_are_named
