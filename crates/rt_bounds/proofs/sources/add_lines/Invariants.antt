use Rattle.rt_bounds.specs.Inside.Sources.{AreSourcesBelow}
use Rattle.rt_bounds.proofs.sources.add_lines.Given as goal

abbrev pub invariant-loop-address : goal.invariant-loop-address
invariant-loop-address l = AreSourcesBelow l.image l.owner l.address l.rows
