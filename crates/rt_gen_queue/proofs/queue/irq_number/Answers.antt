use Rattle.rt_gen_queue.proofs.Vocabulary.{arith, length, refl, slice_get_read}
use Rattle.rt_gen_queue.proofs.queue.irq_number.Goals as goal

pub unreachable-requires : goal.unreachable-requires
unreachable-requires c = omega (arith, c.in-None.ensures.lookup.3, c.from.ensures, c.requires)

pub returns : goal.returns
returns c =
    let read = c.in-Some.ensures.lookup in
    rw (
      ← c.from.ensures,
      slice_get_read c.args.irqs.now (length c.args.irqs.now) c.from.result c.in-Some.declared.now refl read.3.0 read.1,
    ) refl
