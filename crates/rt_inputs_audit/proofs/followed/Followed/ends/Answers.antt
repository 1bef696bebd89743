use Rattle.rt_app.specs.View.{app_of}
use Rattle.rt_inputs_audit.proofs.Opening.{ends_here, ends_held}
use Rattle.rt_inputs_audit.proofs.followed.Followed.ends.Goals as goal

pub returns-in-None : goal.returns-in-None
returns-in-None c =
    ends_here (app_of c.args.machine.now.code.now.app.now) c.args.self.now c.judge_total.result c.args.total
    c.in-None.is c.judge_total.ensures

pub returns-in-Some : goal.returns-in-Some
returns-in-Some c =
    ends_held (app_of c.args.machine.now.code.now.app.now) c.args.self.now _ c.args.total c.in-Some.is
