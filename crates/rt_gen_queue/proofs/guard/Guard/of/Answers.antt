use Rattle.rt_gen_queue.proofs.Planned.{no_guard}
use Rattle.rt_gen_queue.proofs.guard.Guard.of.Goals as goal

pub returns-then-ceiling-eq0 : goal.returns-then-ceiling-eq0
returns-then-ceiling-eq0 c =
    no_guard c.args.bits c.args.ceiling c.requires.few_bits c.requires.many_bits c.if-ceiling-eq0.true
