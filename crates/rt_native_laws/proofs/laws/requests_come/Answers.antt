use Rattle.rt_native_laws.proofs.Changing.{changes_keep_phases}
use Rattle.rt_native_laws.proofs.Arriving.{arrivals_keep_phases, pending_ticks_keep_phases}
use Rattle.rt_native_laws.proofs.laws.requests_come.Goals as goal

pub returns : goal.returns
returns c = record {
  arrivals = arrivals_keep_phases;
  ticks = pending_ticks_keep_phases;
  changes = changes_keep_phases;
}
