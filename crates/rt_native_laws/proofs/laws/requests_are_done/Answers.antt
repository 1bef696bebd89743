use Rattle.rt_native_laws.proofs.Requests.{post_is_done, no_alarm_is_done}
use Rattle.rt_native_laws.proofs.laws.requests_are_done.Goals as goal

pub returns : goal.returns
returns c = record {
  post = post_is_done;
  no_alarm = no_alarm_is_done;
}
