use Rattle.std.proofs.Common.{ap, ◌∙◌}
use Rattle.rt_baker_work.specs.Store.{Store, contents}
use Rattle.rt_baker_work.proofs.store.Store.delays.Goals as goal

pub returns : goal.returns
unfolding contents
returns c = c.as_slice.ensures.value ∙ ap (λ (s : Store). s.timed.armed) c.self.view_is
