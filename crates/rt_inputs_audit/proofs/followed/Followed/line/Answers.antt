use Rattle.std.proofs.Common.{sym, subst}
use Rattle.rt_app.specs.View.{app_of}
use Rattle.rt_inputs_audit.specs.Judging.{LineJudged}
use Rattle.rt_inputs_audit.specs.Reading.{shown_of}
use Rattle.rt_inputs_audit.specs.declared.line.TraceLine.{TraceLine}
use Rattle.rt_inputs_audit.proofs.followed.Followed.line.Goals as goal

pub returns-in_ok-came-in-Shows : goal.returns-in_ok-came-in-Shows
returns-in_ok-came-in-Shows c =
    subst (λ (l : TraceLine). LineJudged (app_of c.args.machine.now.code.now.app.now) c.args.board.now
    c.in_ok-came-in-Shows.came c.args.self.now c.item.new.self (shown_of l)) (sym c.in-Shows.is)
    c.in_ok-came-in-Shows.ensures

pub returns-in_ok-came-in-Input : goal.returns-in_ok-came-in-Input
returns-in_ok-came-in-Input c =
    subst (λ (l : TraceLine). LineJudged (app_of c.args.machine.now.code.now.app.now) c.args.board.now
    c.in_ok-came-in-Input.came c.args.self.now c.input.new.self (shown_of l)) (sym c.in-Input.is)
    (c.in_ok-came-in-Input.ensures c.args.board.now)
