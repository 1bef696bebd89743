use Rattle.std.proofs.Common.{ap, refl}
use Rattle.rt_outside.specs.Memory.{SureSupply}
use Rattle.rt_outside.proofs.Moving.{given-from, moved-from}
use Rattle.rt_outside.proofs.never_fails.NeverFailsSource.read.Goals as goal

pub returns-clause-given : goal.returns-clause-given
returns-clause-given c =
    given-from c.args.self.now.past c.self.inside.bytes.now c.self.inside.bytes.now c.copy_from_slice.new.self
    c.args.buffer.now c.self.inside.start c.min-count.result c.is_end-self-inside.result
    (ap (λ (s : SureSupply). s.past.bytes) c.self.view_is) refl c.copy_from_slice.ensures.after c.min-count.ensures
    c.is_end-self-inside.ensures

pub returns-clause-moved : goal.returns-clause-moved
returns-clause-moved c =
    moved-from c.args.self.now.left c.self.inside.bytes.now c.self.inside.bytes.now c.copy_from_slice.new.self
    c.args.buffer.now c.self.inside.start c.min-count.result
    (ap (λ (s : SureSupply). s.left) c.self.view_is) refl c.copy_from_slice.ensures.after c.min-count.ensures
