use Rattle.std.proofs.lemmas.Result.{on_ok_weaker, on_err_weaker}
use Rattle.rt_lemmas.proofs.Results.{on_err_from}
use Rattle.rt_run.proofs.Ticking.{tick_part, tick_all, tick_cut}
use Rattle.rt_inputs.proofs.lines.put_tick.Goals as goal

pub returns-in_err-put_item-clause-err : goal.returns-in_err-put_item-clause-err
returns-in_err-put_item-clause-err g c =
    on_err_from c.from_residual.result
    (tick_part c.args.names.now c.args.step c.args.came _ _ c.args.held.now.items c.args.held.now.items
    c.in_err-put_item.ensures.err)

pub returns-clause-ok : goal.returns-clause-ok
returns-clause-ok g c =
    on_ok_weaker c.put_item-2.result
    (tick_all c.args.names.now c.args.step c.args.came _ _ c.args.held.now.items _ _ c.if-not-came.false
    c.in_ok-put_item.ensures.ok c.put_item-2.new.held.items)
    c.put_item-2.ensures.ok

pub returns-clause-err : goal.returns-clause-err
returns-clause-err g c =
    on_err_weaker c.put_item-2.result
    (tick_cut c.args.names.now c.args.step c.args.came _ _ c.args.held.now.items _ _ c.if-not-came.false
    c.in_ok-put_item.ensures.ok)
    c.put_item-2.ensures.err
