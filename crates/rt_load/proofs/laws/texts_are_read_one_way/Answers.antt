use Rattle.rt_load.proofs.OneWay.{read_one_way}
use Rattle.rt_load.proofs.laws.texts_are_read_one_way.Goals as goal

pub returns : goal.returns
returns c = read_one_way
