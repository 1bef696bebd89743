use Rattle.rt_priorities.proofs.Loading as loading
use Rattle.rt_priorities.proofs.laws.text_is_loaded.Goals as goal

pub returns : goal.returns
returns c = loading.text_is_loaded
