use Rattle.rt_inputs.proofs.Free.{given_words_are_free}
use Rattle.rt_inputs.proofs.laws.words_are_free.Goals as goal

pub returns : goal.returns
returns c = given_words_are_free
