use Rattle.rt_core.proofs.Loading.{depends_on_its_load_alone}
use Rattle.rt_core.proofs.laws.steps_depend_on_their_load_alone.Goals as goal

pub returns : goal.returns
returns c = depends_on_its_load_alone
