use Rattle.rt_native_laws.proofs.Calls.{call_is_done}
use Rattle.rt_native_laws.proofs.Returns.{back_is_done}
use Rattle.rt_native_laws.proofs.laws.calls_are_done.Goals as goal

pub returns : goal.returns
returns c = record {
  call = call_is_done;
  back = back_is_done;
}
