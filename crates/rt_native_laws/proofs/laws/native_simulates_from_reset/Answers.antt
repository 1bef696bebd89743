use Rattle.rt_native_laws.proofs.Early.{native_simulates_from_reset}
use Rattle.rt_native_laws.proofs.FromReset.{reset_leads_behind}
use Rattle.rt_native_laws.proofs.laws.native_simulates_from_reset.Goals as goal

pub returns : goal.returns
returns c = record {
  leads = reset_leads_behind;
  simulates = native_simulates_from_reset;
}
