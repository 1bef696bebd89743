use Rattle.rt_priorities.proofs.laws.they_take_the_same.Goals as goal
use Rattle.rt_priorities.proofs.Agreeing as agreeing

pub returns-clause-execution : goal.returns-clause-execution
returns-clause-execution c = agreeing.execution_priorities_agree

pub returns-clause-taken : goal.returns-clause-taken
returns-clause-taken c = agreeing.they_take_the_same
