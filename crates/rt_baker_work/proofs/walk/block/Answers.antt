use Rattle.rt_app.specs.View.{app_of}
use Rattle.rt_baker_work.proofs.Statements.{block_begun}
use Rattle.rt_baker_work.proofs.Weights.{block_light}
use Rattle.rt_baker_work.proofs.walk.block.Goals as goal

pub returns-in_ok-statement-in-Some-clause-same : goal.returns-in_ok-statement-in-Some-clause-same
returns-in_ok-statement-in-Some-clause-same c =
    block_begun (app_of c.args.code.now.app.now) c.args.stmts.now c.in-Some.first.now c.in-Some.rest
    c.args.work.now c.push.new.self c.statement.new.work c.args.store.now c.statement.new.store
    c.in-Some.ensures.cases.0
    c.in_ok-push-in-Some.ensures c.in_ok-statement-in-Some.ensures.same

pub returns-in_ok-statement-in-Some-clause-lighter : goal.returns-in_ok-statement-in-Some-clause-lighter
returns-in_ok-statement-in-Some-clause-lighter c =
    block_light (app_of c.args.code.now.app.now) c.args.stmts.now c.in-Some.first.now c.in-Some.rest
    c.args.work.now c.push.new.self c.statement.new.work c.in-Some.ensures.cases.0 c.in_ok-push-in-Some.ensures
    c.in_ok-statement-in-Some.ensures.lighter
