use Rattle.rt_app.specs.View.{app_of}
use Rattle.rt_inputs_audit.proofs.Judged.{judged_none}
use Rattle.rt_inputs_audit.proofs.judge.InputsJudge.new.Goals as goal

pub returns : goal.returns
returns c b =
    judged_none (app_of c.args.machine.now.code.now.app.now) b c.in_ok-followed.followed c.in_ok-stack.stack
    c.in_ok-stack.ensures c.in_ok-followed.ensures
