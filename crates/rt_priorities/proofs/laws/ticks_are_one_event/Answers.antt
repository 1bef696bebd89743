use Rattle.rt_priorities.proofs.laws.ticks_are_one_event.Goals as goal
use Rattle.rt_priorities.proofs.Ticking as ticking

pub returns : goal.returns
returns c = ticking.ticks_are_one_event
