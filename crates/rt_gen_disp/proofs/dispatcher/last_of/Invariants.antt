-- The last task of the level among those so far.
use Rattle.rt_gen_queue.proofs.Vocabulary.{map, task_of, ◌≡◌}
use Rattle.rt_gen_disp.proofs.Lasts.{is_at_level, last_below}
use Rattle.rt_gen_disp.proofs.dispatcher.last_of.Given as goal

abbrev pub invariant-loop-number : goal.invariant-loop-number
invariant-loop-number l = l.last ≡ last_below (is_at_level l.level (map task_of l.tasks)) l.number
