use Rattle.rt_native_laws.proofs.Interrupting.{entries_lead_on}
use Rattle.rt_native_laws.proofs.laws.entries_lead_on.Goals as goal

pub returns : goal.returns
returns c = entries_lead_on
