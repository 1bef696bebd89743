use Rattle.rt_native_laws.proofs.Changing.{changes_lead_on}
use Rattle.rt_native_laws.proofs.Requesting.{pending_ticks_lead_on, requests_lead_on}
use Rattle.rt_native_laws.proofs.laws.requests_lead_on.Goals as goal

pub returns : goal.returns
returns c = record {
  requests = requests_lead_on;
  ticks = pending_ticks_lead_on;
  changes = changes_lead_on;
}
