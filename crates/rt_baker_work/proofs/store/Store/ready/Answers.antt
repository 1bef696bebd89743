use Rattle.std.proofs.Common.{ap, arith}
use Rattle.rt_baker_work.specs.Store.{Store, contents}
use Rattle.rt_baker_work.proofs.Stores.{list_read}
use Rattle.rt_baker_work.proofs.store.Store.ready.Goals as goal

pub returns : goal.returns
unfolding contents
returns c =
    list_read _ c.self.inside.ready.items c.args.self.now.ready c.from.result c.args.level c.index.result.now
    c.as_slice.result.now (ap (λ (s : Store). s.ready) c.self.view_is) c.from.ensures (omega arith)
    c.index.ensures c.as_slice.ensures.value
