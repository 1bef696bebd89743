use Rattle.rt_top.proofs.Due.{one_due}
use Rattle.rt_top.proofs.Excluding.{lawful}
use Rattle.rt_top.proofs.laws.one_status_is_due.Goals as goal

pub returns : goal.returns
returns c = λ command t one other first second. one_due lawful command t one other first.0 second.0 first.1 second.1
