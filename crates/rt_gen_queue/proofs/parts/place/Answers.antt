use Rattle.rt_gen_queue.proofs.Vocabulary.{arith}
use Rattle.rt_gen_queue.proofs.parts.place.Goals as goal

pub overflow_add-count : goal.overflow_add-count
overflow_add-count c = omega (arith, c.requires)

pub overflow_add-place : goal.overflow_add-place
overflow_add-place c = omega (arith, c.requires)

pub overflow_add-one : goal.overflow_add-one
overflow_add-one c = omega (arith, c.requires)

pub overflow_add-mask : goal.overflow_add-mask
overflow_add-mask c = omega (arith, c.requires)
