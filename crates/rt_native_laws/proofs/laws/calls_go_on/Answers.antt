use Rattle.rt_native_laws.proofs.InCall.{call_goes_on, call_is_no_fault}
use Rattle.rt_native_laws.proofs.Resuming.{returns_to_call}
use Rattle.rt_native_laws.proofs.CallKept.{call_is_kept}
use Rattle.rt_native_laws.proofs.WithinCall.{entry_begins_call, function_goes_on}
use Rattle.rt_native_laws.proofs.laws.calls_go_on.Goals as goal

pub returns : goal.returns
returns c = record {
  begins = entry_begins_call;
  goes = call_goes_on;
  no_fault = call_is_no_fault;
  function = function_goes_on;
  kept = call_is_kept;
  resumes = returns_to_call;
}
