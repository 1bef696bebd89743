use Rattle.rt_native_laws.proofs.Functions.{entry_calls_first, functions_put_words}
use Rattle.rt_native_laws.proofs.laws.functions_come_first.Goals as goal

pub returns : goal.returns
returns c = record { first = entry_calls_first; words = functions_put_words }
