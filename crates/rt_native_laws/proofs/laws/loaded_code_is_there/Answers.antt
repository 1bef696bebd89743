use Rattle.rt_native_laws.proofs.Loading as loading
use Rattle.rt_native_laws.proofs.laws.loaded_code_is_there.Goals as goal

pub returns : goal.returns
returns c = record {
  code = loading.loaded_code_is_there;
  entries = loading.loaded_entries_lead;
}
