use Rattle.rt_build.proofs.Refusing.{application_or_refused}
use Rattle.rt_build.proofs.text.each_is_application_or_refused.Goals as goal

pub returns : goal.returns
returns c = application_or_refused
