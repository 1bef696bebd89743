use Rattle.rt_bounds.proofs.Mapped.{has_all}
use Rattle.rt_bounds.proofs.PlacesFound.{no_exit}
use Rattle.rt_bounds.proofs.counting.counting_from.Goals as goal

pub returns-in-None : goal.returns-in-None
returns-in-None c =
    no_exit c.args.image.now c.args.owner c.args.walk.now
    (has_all c.args.image.now c.args.owner c.args.walk.now c.requires.checked c.requires.mapped) c.args.lines
    c.requires.back c.args.head c.requires.head c.in-None.ensures
