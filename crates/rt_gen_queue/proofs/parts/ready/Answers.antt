use Rattle.rt_gen_queue.proofs.Vocabulary.{arith}
use Rattle.rt_gen_queue.proofs.parts.ready.Goals as goal

pub overflow_add-count : goal.overflow_add-count
overflow_add-count c = omega (arith, c.requires)

pub overflow_add-index : goal.overflow_add-index
overflow_add-index c = omega (arith, c.requires)

pub overflow_add-word : goal.overflow_add-word
overflow_add-word c = omega (arith, c.requires)

pub overflow_add-size : goal.overflow_add-size
overflow_add-size c = omega (arith, c.requires)

pub overflow_add-mask : goal.overflow_add-mask
overflow_add-mask c = omega (arith, c.requires)
