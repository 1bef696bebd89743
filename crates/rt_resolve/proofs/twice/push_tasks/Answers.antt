use Rattle.std.proofs.Common.{rules}
use Rattle.std.proofs.lemmas.Simd.{map-map}
use Rattle.rt_resolve.proofs.twice.push_tasks.Goals as goal

pub returns : goal.returns
returns c = rw map-map (search rules)
