use Rattle.rt_parse.proofs.Keeping.{the_law}
use Rattle.rt_parse.proofs.laws.texts_keep_limits.Goals as goal

pub returns : goal.returns
returns c = record { law = the_law }
