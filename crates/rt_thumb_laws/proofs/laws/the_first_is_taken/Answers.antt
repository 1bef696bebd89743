use Rattle.rt_thumb_laws.proofs.laws.the_first_is_taken.Goals as goal
use Rattle.rt_thumb_laws.proofs.Taking as taking

pub returns-clause-first : goal.returns-clause-first
returns-clause-first c = taking.the_first_is_taken

pub returns-clause-preempts : goal.returns-clause-preempts
returns-clause-preempts c = taking.what_is_taken_preempts
