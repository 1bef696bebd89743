use Rattle.rt_native_laws.proofs.Showing.{phases_show}
use Rattle.rt_native_laws.proofs.Waiting.{waiting_is_kept, entry_adds_a_job, entry_begins}
use Rattle.rt_native_laws.proofs.laws.jobs_wait.Goals as goal

pub returns : goal.returns
returns c = record {
  shown = phases_show;
  kept = waiting_is_kept;
  added = entry_adds_a_job;
  begins = entry_begins;
}
