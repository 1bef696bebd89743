use Rattle.rt_thumb_laws.proofs.laws.late_is_plain.Goals as goal
use Rattle.rt_thumb_laws.proofs.Late as late

pub returns-clause-plain : goal.returns-clause-plain
returns-clause-plain c = late.late_is_plain

pub returns-clause-nothing_else : goal.returns-clause-nothing_else
returns-clause-nothing_else c = late.nothing_else_depends_on_it
