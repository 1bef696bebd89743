use Rattle.rt_parse.proofs.WholeRefused.{text_not_refused}
use Rattle.rt_parse.proofs.laws.no_text_is_refused.Goals as goal

pub returns : goal.returns
returns c = text_not_refused
