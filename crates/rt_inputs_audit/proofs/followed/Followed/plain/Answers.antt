use Rattle.std.proofs.Common.{refl}
use Rattle.rt_app.specs.View.{app_of}
use Rattle.rt_inputs_audit.proofs.Opening.{plain_came, plain_refused}
use Rattle.rt_inputs_audit.proofs.followed.Followed.plain.Goals as goal

pub returns-in-None : goal.returns-in-None
returns-in-None c b =
    plain_refused (app_of c.args.machine.now.code.now.app.now) b c.args.self.now _ c.args.item.now
    c.in_ok-judge_item.field-0 c.judge_item.new.state c.requires.free c.in-None.is c.in_ok-judge_item.ensures

pub returns-in-Some : goal.returns-in-Some
returns-in-Some c b =
    plain_came (app_of c.args.machine.now.code.now.app.now) b c.args.self.now _ c.args.item.now c.in-Some.done
    c.in_ok-judge_item.field-0 c.requires.other c.requires.free c.requires.free c.in-Some.is refl
    c.in_ok-judge_item.ensures
