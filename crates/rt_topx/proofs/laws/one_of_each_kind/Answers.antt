use Rattle.rt_topx.proofs.Excluding.{lawful}
use Rattle.rt_topx.proofs.laws.one_of_each_kind.Goals as goal

pub returns : goal.returns
returns c = lawful.one_of_each
