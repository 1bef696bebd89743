use Rattle.std.proofs.Common.{◌≡◌, ◌-◌, replicate, refl, arith, subst, ◌∙◌}
use Rattle.rt_lemmas.proofs.Results.{on_err_from}
use Rattle.rt_ids.specs.Event.{Step}
use Rattle.rt_app.specs.View.{app_of}
use Rattle.rt_inputs.specs.Inputs.{Comes}
use Rattle.rt_inputs.specs.Going.{moves_at}
use Rattle.rt_inputs.specs.Inside.Ran.{Ran, moment}
use Rattle.rt_inputs.proofs.Known.{still_can, room_for_left}
use Rattle.rt_inputs.proofs.Advancing.{nothing_yet, some_more, left_cut}
use Rattle.rt_inputs.proofs.running.run_steps.Goals as goal

pub loop-left-init : goal.loop-left-init
loop-left-init g c =
    let none : 0 ≡ c.args.count - c.args.count = omega arith in
    let at = moment c.args.core.now c.args.registers.now in
    record {
      run =
          subst (λ n. Ran (app_of c.args.app.now) c.args.board.now (replicate n (Comes Step)) at at
          (g.K.Sink.taken c.args.out.now) (g.K.Sink.taken c.args.out.now) c.args.held.now.items c.args.held.now.items)
          none
          (nothing_yet (app_of c.args.app.now) c.args.board.now at _ c.args.held.now.items);
      within = omega arith;
      quiet = refl;
    }

pub run_to_item-requires-clause-can : goal.run_to_item-requires-clause-can
run_to_item-requires-clause-can g c =
    let app = app_of c.args.app.now in
    still_can app c.args.board.now
    (moves_at app c.args.board.now (moment c.args.core.now c.args.registers.now)
    (replicate (c.args.count - c.loop-left.left) (Comes Step)))
    c.args.core.now c.loop-left.core c.loop-left.invariant.run.leads.machine c.requires.can

pub run_to_item-requires-clause-few : goal.run_to_item-requires-clause-few
run_to_item-requires-clause-few g c =
    room_for_left (app_of c.args.app.now) c.args.board.now c.args.count c.loop-left.left
    (moment c.args.core.now c.args.registers.now) (moment c.loop-left.core c.args.registers.now)
    c.loop-left.invariant.run.leads c.loop-left.invariant.within c.requires.few

pub returns-in_err-left-clause-err : goal.returns-in_err-left-clause-err
returns-in_err-left-clause-err g c =
    on_err_from c.from_residual.result
    (left_cut (app_of c.args.app.now) c.args.board.now c.args.count c.loop-left.left
    (moment c.args.core.now c.args.registers.now) (moment c.loop-left.core c.args.registers.now)
    (moment c.run_to_item.new.core c.args.registers.now) _ _ _ c.args.held.now.items _
    c.loop-left.invariant.within c.loop-left.invariant.run c.in_err-left.ensures.err)

pub loop-left-preserved : goal.loop-left-preserved
loop-left-preserved g c = record {
  run =
      some_more (app_of c.args.app.now) c.args.board.now c.args.count c.loop-left.left _
      (moment c.args.core.now c.args.registers.now) (moment c.loop-left.core c.args.registers.now)
      (moment c.run_to_item.new.core c.args.registers.now) _ _ _ c.args.held.now.items _
      c.run_to_item.new.held.items c.loop-left.invariant.within (omega (arith, c.in_ok-left.ensures.fewer))
      c.loop-left.invariant.run c.in_ok-left.ensures.ok;
  within = omega (arith, c.in_ok-left.ensures.fewer, c.loop-left.invariant.within);
  quiet = c.in_ok-left.ensures.quiet ∙ c.loop-left.invariant.quiet;
}
