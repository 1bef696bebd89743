use Rattle.std.proofs.Common.{rules}
use Rattle.rt_ids.proofs.Lists.{position-map}
use Rattle.rt_resolve.proofs.lookup.task_named.Goals as goal

pub returns : goal.returns
returns c = rw position-map (search rules)
