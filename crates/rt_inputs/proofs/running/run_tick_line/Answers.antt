use Rattle.std.proofs.Common.{List, replicate, subst}
use Rattle.std.proofs.lemmas.Result.{on_ok_weaker, on_err_weaker}
use Rattle.rt_ids.specs.Event.{Tick}
use Rattle.rt_app.specs.View.{app_of}
use Rattle.rt_inputs.specs.Inputs.{Happening}
use Rattle.rt_inputs.specs.Inside.Ran.{Ran, Cut, moment, held_in}
use Rattle.rt_inputs.proofs.Plain.{IsNoStep, all_same, map_same, plain_ran, plain_cut}
use Rattle.rt_inputs.proofs.running.run_tick_line.Goals as goal

pub returns-clause-ok : goal.returns-clause-ok
returns-clause-ok g c =
    let app = app_of c.args.app.now in
    let none = all_same IsNoStep c.args.count Tick tt in
    on_ok_weaker c.run_ticks.result
    (λ run. subst (λ (hs : List Happening). Ran app c.args.board.now hs
    (moment c.args.core.now c.args.registers.now) (moment c.run_ticks.new.core c.args.registers.now)
    (g.K.Sink.taken c.args.out.now) (g.K.Sink.taken c.run_ticks.new.out) c.args.held.now.items
    c.run_ticks.new.held.items)
    (map_same c.args.count Tick)
    (plain_ran app c.args.board.now (held_in c.args.registers.now) c.args.core.now c.requires.can.names
    (replicate c.args.count Tick) none c.run_ticks.new.core _ _ _ _ run))
    c.run_ticks.ensures.ok

pub returns-clause-err : goal.returns-clause-err
returns-clause-err g c =
    let app = app_of c.args.app.now in
    let none = all_same IsNoStep c.args.count Tick tt in
    on_err_weaker c.run_ticks.result
    (λ cut. subst (λ (hs : List Happening). Cut app c.args.board.now hs
    (moment c.args.core.now c.args.registers.now) (moment c.run_ticks.new.core c.args.registers.now)
    (g.K.Sink.taken c.args.out.now) (g.K.Sink.taken c.run_ticks.new.out) c.args.held.now.items)
    (map_same c.args.count Tick)
    (plain_cut app c.args.board.now (held_in c.args.registers.now) c.args.core.now c.requires.can.names
    (replicate c.args.count Tick) none c.run_ticks.new.core _ _ _ cut))
    c.run_ticks.ensures.err
