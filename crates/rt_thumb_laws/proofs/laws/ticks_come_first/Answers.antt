use Rattle.rt_thumb_laws.proofs.laws.ticks_come_first.Goals as goal
use Rattle.rt_thumb_laws.proofs.Taking as taking

pub returns-clause-first : goal.returns-clause-first
returns-clause-first c = taking.ticks_come_first

pub returns-clause-alone : goal.returns-clause-alone
returns-clause-alone c = taking.nothing_preempts_a_tick
