use Rattle.rt_native_laws.proofs.Resetting as resetting
use Rattle.rt_native_laws.proofs.laws.reset_leads.Goals as goal

pub returns : goal.returns
returns c = record {
  parts = resetting.reset_has_two_parts;
  leads = resetting.reset_leads;
}
