use Rattle.std.proofs.Common.{refl, arith}
use Rattle.rt_baker_work.proofs.Stores.{ready_grown}
use Rattle.rt_baker_work.proofs.store.Store.make_ready.Goals as goal

pub returns : goal.returns
returns c =
    ready_grown _ c.self.inside.ready.items _ c.args.self.now c.from.result c.args.level c.args.message
    c.index_mut.result.now c.push.new.self refl c.self.view_is c.from.ensures (omega arith)
    c.index_mut.ensures.value c.in_ok-push.ensures.items
