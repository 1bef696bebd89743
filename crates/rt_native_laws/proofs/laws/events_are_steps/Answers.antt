use Rattle.rt_native_laws.proofs.Going.{one_event_is_one_step_or_none, mark_is_no_event, what_is_late_is_nothing}
use Rattle.rt_native_laws.proofs.laws.events_are_steps.Goals as goal

pub returns : goal.returns
returns c = record {
  one = one_event_is_one_step_or_none;
  mark = mark_is_no_event;
  late = what_is_late_is_nothing;
}
