use Rattle.std.proofs.Common.{arith}
use Rattle.rt_baker_work.proofs.Stores.{local_is_set}
use Rattle.rt_baker_work.proofs.store.Store.set_local.Goals as goal

pub returns : goal.returns
returns c = local_is_set _ _ c.from.result c.args.local c.args.value c.self.view_is c.from.ensures (omega arith)
