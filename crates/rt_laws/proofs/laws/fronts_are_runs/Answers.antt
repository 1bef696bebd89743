use Rattle.rt_laws.proofs.ByItems as by_items
use Rattle.rt_laws.proofs.laws.fronts_are_runs.Goals as goal

pub returns : goal.returns
returns c = by_items.fronts_are_runs
