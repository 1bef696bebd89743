use Rattle.rt_priorities.proofs.laws.it_takes_what_is_picked.Goals as goal
use Rattle.rt_priorities.proofs.Controller as controller

pub returns-clause-execution : goal.returns-clause-execution
returns-clause-execution c = controller.controller_sets_execution

pub returns-clause-taken : goal.returns-clause-taken
returns-clause-taken c = controller.takes_what_is_picked
