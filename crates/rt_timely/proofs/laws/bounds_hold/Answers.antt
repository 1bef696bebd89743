-- The law's clauses.
use Rattle.rt_timely.proofs.laws.bounds_hold.Goals as goal
use Rattle.rt_timely.proofs.InTime.{jobs_end_in_time, sections_end_in_time, stack_is_enough}
use Rattle.rt_timely.proofs.Started.{none_waits_once_started}
use Rattle.rt_timely.proofs.Waiting.{waits_are_short}

pub returns-clause-jobs : goal.returns-clause-jobs
returns-clause-jobs c = jobs_end_in_time

pub returns-clause-sections : goal.returns-clause-sections
returns-clause-sections c = sections_end_in_time

pub returns-clause-waits : goal.returns-clause-waits
returns-clause-waits c = waits_are_short

pub returns-clause-started : goal.returns-clause-started
returns-clause-started c = none_waits_once_started

pub returns-clause-stack : goal.returns-clause-stack
returns-clause-stack c = stack_is_enough
