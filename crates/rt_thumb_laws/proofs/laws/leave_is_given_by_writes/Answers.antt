use Rattle.rt_thumb_laws.proofs.laws.leave_is_given_by_writes.Goals as goal
use Rattle.rt_thumb_laws.proofs.Leave as leave

pub returns-clause-given : goal.returns-clause-given
returns-clause-given c = leave.leave_is_given_by_writes

pub returns-clause-ends : goal.returns-clause-ends
returns-clause-ends c = leave.barriers_end_it

pub returns-clause-let_in : goal.returns-clause-let_in
returns-clause-let_in c = leave.what_is_let_in_may_be_late
