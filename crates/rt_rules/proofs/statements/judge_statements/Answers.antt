use Rattle.std.proofs.Common.{[], flat_map}
use Rattle.rt_app.specs.View.{app_of}
use Rattle.rt_app.specs.Bodies.{Member}
use Rattle.rt_app.specs.Use.{uses}
use Rattle.rt_app.specs.Statements.{breaks}
use Rattle.rt_rules.specs.Inside.View.{member_of}
use Rattle.rt_rules.proofs.Fold.{one_more_seen}
use Rattle.rt_rules.proofs.statements.judge_statements.Goals as goal

pub loop-member-preserved : goal.loop-member-preserved
loop-member-preserved c =
    one_more_seen (λ (m : Member). flat_map (breaks (app_of c.args.app.now) m) (uses [] m.body.block)) member_of
    c.args.first.now c.loop-member.first c.judge_body.new.first c.args.members.now c.loop-member.member-index
    c.member-item.result c.loop-member-test.true c.member-item.is c.loop-member.invariant
    c.in_ok-judge_body.ensures
