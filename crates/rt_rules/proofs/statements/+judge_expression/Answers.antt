use Rattle.rt_app.specs.View.{app_of, expression_of}
use Rattle.rt_app.specs.Use.{reads}
use Rattle.rt_rules.specs.Inside.Locked.{locked_resources}
use Rattle.rt_rules.specs.Inside.View.{member_of}
use Rattle.rt_rules.proofs.Uses.{uses_behind, operands}
use Rattle.rt_rules.proofs.statements.+judge_expression.Goals as goal

pub returns-in-Oper : goal.returns-in-Oper
returns-in-Oper t c =
    let locked = locked_resources c.args.locked.now in
    let left = c.deref.result.now in
    let right = c.deref-in-Oper.result.now in
    uses_behind (app_of c.args.judge.now.app.now) (member_of c.args.judge.now.member) c.args.first.now
    c.judge_expression.new.first c.judge_expression-in-Oper.new.first
    (reads locked (expression_of left)) (reads locked (expression_of right))
    (reads locked (expression_of c.args.expr.now))
    (operands locked c.args.expr.now left right c.in-Oper.field-0 c.in-Oper.left c.in-Oper.right c.in-Oper.is
    c.deref.ensures c.deref-in-Oper.ensures) c.judge_expression.ensures c.judge_expression-in-Oper.ensures
