-- The law's clauses.
use Rattle.rt_timely.proofs.laws.bounds_tell_all.Goals as goal
use Rattle.rt_timely.proofs.Told.{runs_are_told, waits_are_told}

pub returns-clause-runs : goal.returns-clause-runs
returns-clause-runs c = runs_are_told

pub returns-clause-waits : goal.returns-clause-waits
returns-clause-waits c = waits_are_told
