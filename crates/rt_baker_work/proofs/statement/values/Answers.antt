use Rattle.rt_app.specs.Meaning.{value_in}
use Rattle.rt_baker_work.specs.Store.{contents}
use Rattle.rt_baker_work.proofs.Statements.{values_more}
use Rattle.rt_baker_work.proofs.statement.values.Goals as goal

pub loop-expr-preserved : goal.loop-expr-preserved
loop-expr-preserved c =
    values_more (value_in c.args.vars.now (contents c.args.store.now)) c.args.exprs.now c.loop-expr.expr-index
    c.expr-item.result c.loop-expr.values.items c.push.new.self.items c.value.result
    c.loop-expr-test.true c.expr-item.is c.loop-expr.invariant c.value.ensures c.in_ok-push.ensures.items
