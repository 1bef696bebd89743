use Rattle.rt_native_laws.proofs.Jumps.{jump_is_done, jump_if_zero_is_done, mark_is_done, wait_is_done}
use Rattle.rt_native_laws.proofs.laws.jumps_are_done.Goals as goal

pub returns : goal.returns
returns c = record {
  jump = jump_is_done;
  jump_if_zero = jump_if_zero_is_done;
  mark = mark_is_done;
  wait = wait_is_done;
}
