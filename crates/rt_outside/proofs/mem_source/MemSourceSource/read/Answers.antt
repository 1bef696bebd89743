use Rattle.std.proofs.Common.{ap}
use Rattle.rt_outside.specs.Memory.{Supply}
use Rattle.rt_outside.proofs.Moving.{given-from, moved-from}
use Rattle.rt_outside.proofs.mem_source.MemSourceSource.read.Goals as goal

pub returns-clause-given : goal.returns-clause-given
returns-clause-given c =
    given-from c.args.self.now.past c.self.inside.bytes.items c.deref-2.result.now c.copy_from_slice.new.self
    c.args.buffer.now c.self.inside.start c.min-count.result c.is_end-self-inside.result
    (ap (λ (s : Supply). s.past.bytes) c.self.view_is) c.deref-2.ensures.value c.copy_from_slice.ensures.after
    c.min-count.ensures c.is_end-self-inside.ensures

pub returns-clause-moved : goal.returns-clause-moved
returns-clause-moved c =
    moved-from c.args.self.now.left c.self.inside.bytes.items c.deref-2.result.now c.copy_from_slice.new.self
    c.args.buffer.now c.self.inside.start c.min-count.result
    (ap (λ (s : Supply). s.left) c.self.view_is) c.deref-2.ensures.value c.copy_from_slice.ensures.after
    c.min-count.ensures
