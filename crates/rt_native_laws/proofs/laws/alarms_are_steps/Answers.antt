use Rattle.rt_native_laws.proofs.Storing.{alarm_is_stored}
use Rattle.rt_native_laws.proofs.Meanwhile.{tail_is_kept}
use Rattle.rt_native_laws.proofs.Tail.{tail_goes_on, tails_are_no_fault}
use Rattle.rt_native_laws.proofs.laws.alarms_are_steps.Goals as goal

pub returns : goal.returns
returns c = record {
  stored = alarm_is_stored;
  tail = tail_goes_on;
  kept = tail_is_kept;
  no_fault = tails_are_no_fault;
}
