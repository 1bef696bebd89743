use Rattle.rt_native_laws.proofs.Words.{words_are_kept}
use Rattle.rt_native_laws.proofs.laws.words_are_kept.Goals as goal

pub returns : goal.returns
returns c = words_are_kept
