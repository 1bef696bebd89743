use Rattle.rt_laws.proofs.Silent.{silent_steps_by_cost}
use Rattle.rt_laws.proofs.laws.silent_steps_are_told_by_cost.Goals as goal

pub returns : goal.returns
returns c = silent_steps_by_cost
