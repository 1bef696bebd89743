use Rattle.rt_app.specs.View.{app_of}
use Rattle.rt_rules.specs.Inside.Locked.{locked_resources}
use Rattle.rt_rules.specs.Inside.View.{member_of}
use Rattle.rt_rules.proofs.Uses.{after_uses, move_uses}
use Rattle.rt_rules.proofs.statements.judge_spawn.Goals as goal

pub returns-in-After : goal.returns-in-After
returns-in-After c =
    after_uses (app_of c.args.judge.now.app.now) (member_of c.args.judge.now.member)
    (locked_resources c.args.locked.now) c.args.first.now c.offer_when.new.self c.judge_target-in-After.new.first
    c.judge_expression.new.first
    c.judge_expressions-in-After.new.first c.args.spawn.now c.in-After.word c.in-After.delay c.in-After.task
    c.in-After.args c.in-After.at c.deref-in-After.result.now c.deref-in-After-2.result.now c.is_timeless.result
    c.in-After.is c.deref-in-After.ensures.value c.deref-in-After-2.ensures.value c.is_timeless.ensures
    c.offer_when.ensures c.judge_target-in-After.ensures c.judge_expression.ensures
    c.judge_expressions-in-After.ensures

pub returns-in-Move : goal.returns-in-Move
returns-in-Move c =
    move_uses (app_of c.args.judge.now.app.now) (member_of c.args.judge.now.member) (locked_resources c.args.locked.now)
    c.args.first.now c.judge_message-in-Move.new.first c.judge_expression-in-Move.new.first
    c.judge_expression-in-Move-2.new.first c.args.spawn.now c.in-Move.word c.in-Move.delay c.in-Move.task
    c.in-Move.handle c.in-Move.at c.in-Move.is c.judge_message-in-Move.ensures c.judge_expression-in-Move.ensures
    c.judge_expression-in-Move-2.ensures
