use Rattle.rt_app.specs.View.{app_of}
use Rattle.rt_baker.proofs.Allowing.{rang, not_rung}
use Rattle.rt_baker.proofs.coming.rings.Goals as goal

pub returns-in_ok-ring-in-Alarm : goal.returns-in_ok-ring-in-Alarm
returns-in_ok-ring-in-Alarm c =
    rang (app_of c.args.machine.now.code.now.app.now) c.args.state.now c.ring.new.self c.args.what.now c.requires.owing
    c.in-Alarm.is c.in_ok-ring-in-Alarm.ensures

pub returns-in_default : goal.returns-in_default
returns-in_default c =
    not_rung (app_of c.args.machine.now.code.now.app.now) c.args.state.now c.args.state.now c.args.what.now
    c.requires.owing c.in_default.not-Alarm
