use Rattle.rt_why.proofs.Breaking.{inoperable}
use Rattle.rt_why.proofs.parts.operands_witness.Goals as goal

pub point_near-requires-clause-there : goal.point_near-requires-clause-there
point_near-requires-clause-there c = inoperable c.args.image.now c.requires.broken
