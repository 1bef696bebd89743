use Rattle.std.proofs.Common.{ap}
use Rattle.rt_baker_work.specs.Store.{Store, contents}
use Rattle.rt_baker_work.proofs.store.Store.last_handle.Goals as goal

pub returns : goal.returns
unfolding contents
returns c = ap (λ (s : Store). s.timed.given) c.self.view_is
