use Rattle.rt_native_laws.proofs.Linked.{linked_code_is_there, linked_entries_lead, linked_service_lies}
use Rattle.rt_native_laws.proofs.laws.linked_code_is_there.Goals as goal

pub returns : goal.returns
returns c = record { code = linked_code_is_there; entries = linked_entries_lead; service = linked_service_lies }
