use Rattle.rt_load.proofs.Judged.{limits_of_points}
use Rattle.rt_topx.proofs.bounds.text_of_bounds.Goals as goal

pub bounds-requires-clause-limits : goal.bounds-requires-clause-limits
bounds-requires-clause-limits c = limits_of_points c.args.image.now c.requires.loadable

pub returns : goal.returns
returns c = (c.in_ok-found.found, c.in_ok-found.ensures, c.in_ok-text.ensures)
