use Rattle.rt_priorities.proofs.laws.reset_sets_up.Goals as goal
use Rattle.rt_priorities.proofs.Setting as setting

pub returns-clause-sets_up : goal.returns-clause-sets_up
returns-clause-sets_up c = setting.reset_sets_up

pub returns-clause-begins : goal.returns-clause-begins
returns-clause-begins c = setting.reset_begins_so
