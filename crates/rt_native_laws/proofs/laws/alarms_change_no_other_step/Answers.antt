use Rattle.rt_native_laws.proofs.Alike.{steps_are_alike}
use Rattle.rt_native_laws.proofs.laws.alarms_change_no_other_step.Goals as goal

pub returns : goal.returns
returns c = steps_are_alike
