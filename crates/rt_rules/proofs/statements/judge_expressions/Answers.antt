use Rattle.std.proofs.Common.{◌+◌, map, flat_map, take}
use Rattle.rt_app.specs.View.{app_of, expression_of}
use Rattle.rt_app.specs.Use.{reads}
use Rattle.rt_rules.specs.Inside.Locked.{locked_resources}
use Rattle.rt_rules.specs.Inside.View.{member_of}
use Rattle.rt_rules.proofs.Uses.{uses_behind, reads_more}
use Rattle.rt_rules.proofs.statements.judge_expressions.Goals as goal

pub loop-expr-preserved : goal.loop-expr-preserved
loop-expr-preserved c =
    let locked = locked_resources c.args.locked.now in
    let es = c.args.exprs.now in
    let i = c.loop-expr.expr-index in
    uses_behind (app_of c.args.judge.now.app.now) (member_of c.args.judge.now.member) c.args.first.now c.loop-expr.first
    c.judge_expression.new.first
    (flat_map (reads locked) (map expression_of (take i es))) (reads locked (expression_of c.expr-item.result))
    (flat_map (reads locked) (map expression_of (take (i + 1) es)))
    (reads_more locked es i c.expr-item.result c.loop-expr-test.true c.expr-item.is) c.loop-expr.invariant
    c.judge_expression.ensures
