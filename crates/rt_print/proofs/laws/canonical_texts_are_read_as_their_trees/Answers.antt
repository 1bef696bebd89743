use Rattle.rt_print.proofs.Law.{the_law}
use Rattle.rt_print.proofs.laws.canonical_texts_are_read_as_their_trees.Goals as goal

pub returns : goal.returns
returns c = the_law
