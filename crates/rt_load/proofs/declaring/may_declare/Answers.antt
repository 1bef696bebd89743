use Rattle.std.proofs.lemmas.Bool.Decides.{same_from_decides}
use Rattle.rt_load.specs.Inside.Taking.{may_declare}
use Rattle.rt_load.proofs.Declared.{declarable}
use Rattle.rt_load.proofs.declaring.may_declare.Goals as goal

pub returns : goal.returns
returns c =
    same_from_decides c.is_name.result (may_declare c.args.name.now)
    (λ e. c.is_name.ensures.0 e, λ is. c.is_name.ensures.1 is) (declarable c.args.name.now)
