use Rattle.std.proofs.Common.{refl, arith}
use Rattle.rt_baker_work.proofs.Stores.{ready_taken}
use Rattle.rt_baker_work.proofs.store.Store.start.Goals as goal

pub returns : goal.returns
returns c =
    λ m.
    ready_taken _ c.self.inside.ready.items _ c.args.self.now c.from.result c.args.level m c.index_mut.result.now
    c.drop_first.new.items refl c.self.view_is c.from.ensures (omega arith)
    c.index_mut.ensures.value c.drop_first.ensures
