use Rattle.rt_native_laws.proofs.Owing.{ceilings_hold_off, happenings_are_alike, none_above_sets_alarms}
use Rattle.rt_native_laws.proofs.Owing.{tails_owe_so, ticks_in_tails, ticks_leave_owed, ticks_pay}
use Rattle.rt_native_laws.proofs.laws.alarms_are_owed.Goals as goal

pub returns : goal.returns
returns c = record {
  held_off = ceilings_hold_off;
  above = none_above_sets_alarms;
  alike = happenings_are_alike;
  pay = ticks_pay;
  owed = ticks_leave_owed;
  so = tails_owe_so;
  ticks = ticks_in_tails;
}
