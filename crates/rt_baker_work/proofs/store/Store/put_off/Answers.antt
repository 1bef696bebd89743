use Rattle.std.proofs.Common.{◌+◌, refl, ap, arith}
use Rattle.rt_baker_work.specs.Store.{Store}
use Rattle.rt_baker_work.proofs.Stores.{put_off}
use Rattle.rt_baker_work.proofs.store.Store.put_off.Goals as goal

pub overflow_add-moved : goal.overflow_add-moved
overflow_add-moved c = omega (arith, c.requires.moved, ap (λ (s : Store). s.timed.moved) c.self.view_is)

pub returns : goal.returns
returns c =
    put_off _ c.args.self.now c.args.task c.args.handle c.args.instant (c.self.inside.moved + 1)
    c.postpone.new.armed.items c.self.view_is refl c.in_ok-postpone.ensures
