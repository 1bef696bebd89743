use Rattle.rt_native_laws.proofs.Instructing.{instructions_lead_on}
use Rattle.rt_native_laws.proofs.Requesting.{late_instructions_lead_on}
use Rattle.rt_native_laws.proofs.laws.instructions_lead_on.Goals as goal

pub returns : goal.returns
returns c = record {
  next = instructions_lead_on;
  late = late_instructions_lead_on;
}
