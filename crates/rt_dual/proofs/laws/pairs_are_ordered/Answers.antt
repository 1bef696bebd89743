use Rattle.rt_dual.proofs.{Nothing.nothing, Ordered.ordered}
use Rattle.rt_dual.proofs.laws.pairs_are_ordered.Goals as goal

pub returns-clause-ordered : goal.returns-clause-ordered
returns-clause-ordered c = ordered

pub returns-clause-nothing : goal.returns-clause-nothing
returns-clause-nothing c = nothing
