use Rattle.rt_why.proofs.Breaking.{misnoted}
use Rattle.rt_why.proofs.parts.notes_witness.Goals as goal

pub point_near-requires-clause-there : goal.point_near-requires-clause-there
point_near-requires-clause-there c = misnoted c.args.image.now c.requires.broken
