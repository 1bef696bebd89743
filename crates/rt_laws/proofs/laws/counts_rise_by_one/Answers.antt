use Rattle.rt_laws.proofs.Counting as counting
use Rattle.rt_laws.proofs.laws.counts_rise_by_one.Goals as goal

pub returns : goal.returns
returns c = counting.counts_rise_by_one
