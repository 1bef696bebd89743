use Rattle.std.proofs.Common.{sym, subst, ◌∙◌, arith}
use Rattle.rt_ids.specs.Choice.{IsIn}
use Rattle.rt_respond.proofs.Order.{next_in, all_at_next, all_at_last, all_at_end}
use Rattle.rt_respond.proofs.report.last_of.Goals as goal
use Rattle.rt_respond.proofs.report.last_of.Goals.{then-stands_before, else-stands_before}

pub loop-handler-preserved : goal.loop-handler-preserved
loop-handler-preserved c = elim c.if-stands_before.branch [
  | then-stands_before w ↦ record {
    declared = next_in c.args.handlers.now c.loop-handler.handler-index c.loop-handler.last c.handler-item.result
        c.if-stands_before.last c.loop-handler-test.true c.handler-item.is c.loop-handler.invariant.behind w.last-is;
    behind = all_at_next c.args.handlers.now c.loop-handler.handler-index c.loop-handler.last c.handler-item.result
        c.if-stands_before.last c.loop-handler-test.true c.handler-item.is c.loop-handler.invariant.behind w.last-is
        (sym c.stands_before.ensures ∙ w.if-stands_before.true);
  }
  | else-stands_before w ↦ record {
    declared = subst (IsIn c.args.handlers.now) (sym w.last-is) c.loop-handler.invariant.declared;
    behind = all_at_last c.args.handlers.now c.loop-handler.handler-index c.loop-handler.last c.handler-item.result
        c.if-stands_before.last c.loop-handler-test.true c.handler-item.is c.loop-handler.invariant.behind w.last-is
        (sym c.stands_before.ensures ∙ w.if-stands_before.false);
  }
]

pub returns-clause-last : goal.returns-clause-last
returns-clause-last c = record {
  declared = c.loop-handler.invariant.declared;
  behind = all_at_end c.args.handlers.now c.loop-handler.handler-index c.loop-handler.last
      (omega (arith, c.loop-handler-test.false)) c.loop-handler.invariant.behind;
}
