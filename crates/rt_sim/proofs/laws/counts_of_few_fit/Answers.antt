-- The counts of few events fit.
use Rattle.rt_sim.proofs.Armed.{counts_of_few_fit}
use Rattle.rt_sim.proofs.laws.counts_of_few_fit.Goals as goal

pub returns : goal.returns
returns c = counts_of_few_fit
