use Rattle.rt_app.specs.View.{app_of}
use Rattle.rt_baker.specs.Judge.{steps_done}
use Rattle.rt_baker.proofs.Verdicts.{ends_any, total_less, total_passes}
use Rattle.rt_baker.proofs.items.judge_total.Goals as goal

pub returns-in-None : goal.returns-in-None
returns-in-None c =
    let app = app_of c.args.machine.now.code.now.app.now in
    ends_any app c.args.state.now (steps_done c.args.done) c.args.total c.in-None.is

pub returns-in-None-until : goal.returns-in-None-until
returns-in-None-until c =
    let app = app_of c.args.machine.now.code.now.app.now in
    total_less app c.args.state.now (steps_done c.args.done) c.in-Some.total c.args.total
    c.in-Some.is
    c.in-None-until.ensures

pub returns-in-Some-until : goal.returns-in-Some-until
returns-in-Some-until c =
    let app = app_of c.args.machine.now.code.now.app.now in
    total_passes app c.pass_steps.result c.args.state.now c.pass_steps.new.state
    (steps_done c.args.done)
    c.in-Some-until.steps c.in-Some.total c.args.total c.in-Some.is c.in-Some-until.ensures.0
    c.in-Some-until.ensures.1 c.pass_steps.ensures
