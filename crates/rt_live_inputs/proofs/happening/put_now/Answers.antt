use Rattle.std.proofs.lemmas.Result.{on_err_weaker, on_ok_weaker}
use Rattle.rt_lemmas.proofs.Results.{on_err_from}
use Rattle.rt_app.specs.View.{app_of}
use Rattle.rt_inputs.specs.Inside.Ran.{moment}
use Rattle.rt_inputs.specs.Script.{line_happenings}
use Rattle.rt_live_inputs.proofs.Going.{cut_stops, ran_out, ran_stops}
use Rattle.rt_live_inputs.proofs.happening.put_now.Goals as goal

pub run_line-requires-clause-can : goal.run_line-requires-clause-can
run_line-requires-clause-can g c = c.requires.can.can

pub run_line-requires-clause-few : goal.run_line-requires-clause-few
run_line-requires-clause-few g c = c.requires.can.few

pub run_line-requires-clause-early : goal.run_line-requires-clause-early
run_line-requires-clause-early g c = c.requires.can.early

pub returns-in_err-run_line-clause-err : goal.returns-in_err-run_line-clause-err
returns-in_err-run_line-clause-err g c =
    on_err_from c.from_residual.result
    (cut_stops (app_of c.args.app.now) c.args.board.now (line_happenings c.args.line.now)
    (moment c.args.core.now c.args.registers.now) (moment c.run_line.new.core c.run_line.new.registers) _ _ _
    c.clear.ensures c.requires.one c.in_err-run_line.ensures.err)

pub returns-clause-ok : goal.returns-clause-ok
returns-clause-ok g c =
    on_ok_weaker c.put_held.result
    (ran_out (app_of c.args.app.now) c.args.board.now (line_happenings c.args.line.now)
    (moment c.args.core.now c.args.registers.now) (moment c.run_line.new.core c.run_line.new.registers) _ _ _ _ _
    c.clear.ensures c.in_ok-run_line.ensures.ok)
    c.put_held.ensures.ok

pub returns-clause-err : goal.returns-clause-err
returns-clause-err g c =
    on_err_weaker c.put_held.result
    (ran_stops (app_of c.args.app.now) c.args.board.now (line_happenings c.args.line.now)
    (moment c.args.core.now c.args.registers.now) (moment c.run_line.new.core c.run_line.new.registers) _ _ _ _ _
    c.clear.ensures c.requires.one c.in_ok-run_line.ensures.ok)
    c.put_held.ensures.err
