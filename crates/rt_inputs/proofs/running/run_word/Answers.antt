use Rattle.std.proofs.Common.{[], ◌∷◌}
use Rattle.std.proofs.lemmas.Result.{on_err_weaker, on_ok_weaker}
use Rattle.rt_ids.specs.Event.{Arrive}
use Rattle.rt_app.specs.View.{app_of}
use Rattle.rt_inputs.specs.Inputs.{Comes}
use Rattle.rt_inputs.specs.Inside.Ran.{held_in, moment}
use Rattle.rt_inputs.proofs.Requests.{gives_cut, gives_first}
use Rattle.rt_inputs.proofs.running.run_word.Goals as goal

pub returns-clause-ok : goal.returns-clause-ok
returns-clause-ok g c =
    on_ok_weaker c.run_pend_line.result
    (gives_first (app_of c.args.app.now) c.args.board.now c.args.local c.args.word c.args.core.now
    (held_in c.args.registers.now) (Comes (Arrive c.args.irq) ∷ []) (held_in c.give.new.self) c.give.ensures
    (moment c.run_pend_line.new.core c.give.new.self) (g.K.Sink.taken c.args.out.now)
    (g.K.Sink.taken c.run_pend_line.new.out) c.args.held.now.items c.run_pend_line.new.held.items)
    c.run_pend_line.ensures.ok

pub returns-clause-err : goal.returns-clause-err
returns-clause-err g c =
    on_err_weaker c.run_pend_line.result
    (gives_cut (app_of c.args.app.now) c.args.board.now c.args.local c.args.word c.args.core.now
    (held_in c.args.registers.now) (Comes (Arrive c.args.irq) ∷ []) (held_in c.give.new.self) c.give.ensures
    (moment c.run_pend_line.new.core c.give.new.self) (g.K.Sink.taken c.args.out.now)
    (g.K.Sink.taken c.run_pend_line.new.out) c.args.held.now.items)
    c.run_pend_line.ensures.err
