use Rattle.rt_app.specs.View.{app_of}
use Rattle.rt_baker.proofs.Verdicts.{judged_none}
use Rattle.rt_baker.proofs.judge.Judge.new.Goals as goal

pub returns : goal.returns
returns c =
    judged_none (app_of c.args.machine.now.code.now.app.now) c.in_ok-state.state c.in_ok-stack.stack c.none.result
    c.in_ok-stack.ensures c.in_ok-state.ensures c.none.ensures
