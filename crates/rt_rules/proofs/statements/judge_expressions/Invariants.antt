-- The first violation so far is that of the expressions so far.
use Rattle.std.proofs.Common.{◌≡◌, map, flat_map, take}
use Rattle.rt_app.specs.View.{app_of, expression_of}
use Rattle.rt_app.specs.Use.{reads}
use Rattle.rt_rules.specs.Inside.Locked.{locked_resources}
use Rattle.rt_rules.specs.Inside.Uses.{first_use}
use Rattle.rt_rules.specs.Inside.View.{member_of}
use Rattle.rt_rules.proofs.statements.judge_expressions.Given as goal

abbrev pub invariant-loop-expr : goal.invariant-loop-expr
invariant-loop-expr l =
    l.first ≡ first_use (app_of l.judge.app.now) (member_of l.judge.member) l.fn.first
    (flat_map (reads (locked_resources l.locked)) (map expression_of (take l.expr-index l.exprs)))
