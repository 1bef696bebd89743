use Rattle.rt_native_laws.proofs.Accesses.{load_is_done, store_is_done, load_at_is_done, store_at_is_done}
use Rattle.rt_native_laws.proofs.Accesses.{emit_is_done, clock_is_done}
use Rattle.rt_native_laws.proofs.laws.accesses_are_done.Goals as goal

pub returns : goal.returns
returns c = record {
  load = load_is_done;
  store = store_is_done;
  load_at = load_at_is_done;
  store_at = store_at_is_done;
  emit = emit_is_done;
  clock = clock_is_done;
}
