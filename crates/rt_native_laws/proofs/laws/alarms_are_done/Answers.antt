use Rattle.rt_native_laws.proofs.Alarm.{alarm_is_done}
use Rattle.rt_native_laws.proofs.laws.alarms_are_done.Goals as goal

pub returns : goal.returns
returns c = alarm_is_done
