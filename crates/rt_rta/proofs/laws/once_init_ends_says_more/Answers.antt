use Rattle.rt_rta.proofs.OnceInitEnds.{once_init_ends_says_more}
use Rattle.rt_rta.proofs.laws.once_init_ends_says_more.Goals as goal

pub returns : goal.returns
returns c = once_init_ends_says_more
