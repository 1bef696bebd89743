use Rattle.std.proofs.Common.{◌∙◌, arith}
use Rattle.rt_baker_work.proofs.Stores.{shared_is_set}
use Rattle.rt_baker_work.proofs.store.Store.set_shared.Goals as goal

pub returns : goal.returns
returns c =
    shared_is_set _ _ c.from.result c.args.resource c.args.value c.self.view_is (c.from.ensures
    ∙ c.resource.view_is) (omega arith)
