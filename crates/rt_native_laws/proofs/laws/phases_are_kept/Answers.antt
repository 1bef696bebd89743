use Rattle.rt_native_laws.proofs.Kept.{entering_is_kept, calling_is_kept}
use Rattle.rt_native_laws.proofs.Phases.{to_come_is_kept, done_is_kept}
use Rattle.rt_native_laws.proofs.laws.phases_are_kept.Goals as goal

pub returns : goal.returns
returns c = record {
  to_come = to_come_is_kept;
  done = done_is_kept;
  entering = entering_is_kept;
  calling = calling_is_kept;
}
