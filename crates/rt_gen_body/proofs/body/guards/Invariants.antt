-- The guards of the ceilings so far.
use Rattle.rt_gen_queue.proofs.Vocabulary.{guard_of_ceiling, map, take, ◌≡◌}
use Rattle.rt_gen_body.proofs.body.guards.Given as goal

abbrev pub invariant-loop-ceiling : goal.invariant-loop-ceiling
invariant-loop-ceiling l = l.guards.items ≡ map (guard_of_ceiling l.bits) (take l.ceiling-index l.ceilings)
