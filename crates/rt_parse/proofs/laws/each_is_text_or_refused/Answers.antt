use Rattle.rt_parse.proofs.WholeRefused.{text_or_refused}
use Rattle.rt_parse.proofs.laws.each_is_text_or_refused.Goals as goal

pub returns : goal.returns
returns c = text_or_refused
