use Rattle.std.proofs.Common.{set, arith}
use Rattle.rt_app.specs.View.{block_of, app_of}
use Rattle.rt_app.specs.Meaning.{run_block}
use Rattle.rt_baker_work.proofs.Walks.{two_more}
use Rattle.rt_baker_work.proofs.Statements.{turns_over, turns_more}
use Rattle.rt_baker_work.proofs.Weights.{same_weight, turn_light}
use Rattle.rt_baker_work.proofs.statement.turn.Goals as goal

pub returns-then-next-last-clause-same : goal.returns-then-next-last-clause-same
returns-then-next-last-clause-same c =
    turns_over (app_of c.args.app.now) c.args.variable c.args.next c.args.last (run_block (app_of c.args.app.now)
    (block_of c.args.stmts.now)) c.args.work.now c.set.new.self c.args.store.now
    c.if-next-last.true c.set.ensures

pub returns-clause-same : goal.returns-clause-same
returns-clause-same c =
    turns_more (app_of c.args.app.now) c.args.variable c.args.next c.args.last c.args.stmts c.args.work.now
    c.push-2.new.self c.set-2.new.self c.args.store.now c.if-next-last.false
    (two_more c.args.work.now c.push.new.self c.push-2.new.self _ _ c.in_ok-push.ensures c.in_ok-push-2.ensures)
    c.set-2.ensures

pub returns-then-next-last-clause-lighter : goal.returns-then-next-last-clause-lighter
returns-then-next-last-clause-lighter c =
    omega (
      arith,
      same_weight (app_of c.args.app.now) c.args.work.now c.set.new.self (set c.args.work.now.vars
          c.args.variable c.args.next) c.set.ensures,
    )

pub returns-clause-lighter : goal.returns-clause-lighter
returns-clause-lighter c =
    turn_light (app_of c.args.app.now) c.args.variable c.args.next c.args.last c.args.stmts c.args.work.now
    c.push-2.new.self c.set-2.new.self c.if-next-last.false
    (two_more c.args.work.now c.push.new.self c.push-2.new.self _ _ c.in_ok-push.ensures c.in_ok-push-2.ensures)
    c.set-2.ensures
