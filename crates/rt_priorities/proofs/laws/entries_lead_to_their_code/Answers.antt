use Rattle.rt_priorities.proofs.laws.entries_lead_to_their_code.Goals as goal
use Rattle.rt_priorities.proofs.Vectors as vectors

pub returns-clause-interrupts : goal.returns-clause-interrupts
returns-clause-interrupts c = vectors.entries_lead_to_their_code

pub returns-clause-ticks : goal.returns-clause-ticks
returns-clause-ticks c = vectors.ticks_lead_to_theirs
