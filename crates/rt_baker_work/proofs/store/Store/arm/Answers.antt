use Rattle.std.proofs.Common.{◌+◌, refl, ap, arith}
use Rattle.rt_baker_work.specs.Store.{Store}
use Rattle.rt_baker_work.proofs.Stores.{armed}
use Rattle.rt_baker_work.proofs.store.Store.arm.Goals as goal

pub overflow_add-handle : goal.overflow_add-handle
overflow_add-handle c = omega (arith, c.requires.given, ap (λ (s : Store). s.timed.given) c.self.view_is)

pub returns : goal.returns
returns c =
    armed _ c.args.self.now c.args.instant (c.self.inside.given + 1) c.args.message c.push.new.self.items
    c.self.view_is refl c.in_ok-push.ensures.items
