use Rattle.rt_build.proofs.Refusing.{application_not_refused}
use Rattle.rt_build.proofs.text.no_application_is_refused.Goals as goal

pub returns : goal.returns
returns c = application_not_refused
