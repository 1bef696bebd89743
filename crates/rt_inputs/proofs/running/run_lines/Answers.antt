use Rattle.std.proofs.Common.{◌≡◌, ◌<◌, List, length, take, refl, arith, subst, sym, ◌∙◌}
use Rattle.std.proofs.lemmas.List.{take_all}
use Rattle.rt_lemmas.proofs.Results.{on_err_from}
use Rattle.rt_code.specs.Image.{Image}
use Rattle.rt_app.specs.View.{app_of}
use Rattle.rt_script.specs.Script.{HasNames}
use Rattle.rt_given.specs.Given.{asked_line}
use Rattle.rt_given.specs.declared.line.GivenLine.{GivenLine}
use Rattle.rt_inputs.specs.Script.{happenings}
use Rattle.rt_inputs.specs.Going.{moves_at}
use Rattle.rt_inputs.specs.Inside.Ran.{Ran, moment}
use Rattle.rt_inputs.proofs.Known.{still_can}
use Rattle.rt_inputs.proofs.Advancing.{nothing_yet}
use Rattle.rt_inputs.proofs.Scripted.{steps_few, time_early, line_more, line_cut, one_named}
use Rattle.rt_inputs.proofs.running.run_lines.Goals as goal

pub loop-line-init : goal.loop-line-init
loop-line-init g c = record {
  run =
      nothing_yet (app_of c.args.app.now) c.args.board.now (moment c.args.core.now c.args.registers.now) _
      c.args.held.now.items;
  quiet = refl;
}

pub run_line-requires-clause-can : goal.run_line-requires-clause-can
run_line-requires-clause-can g c =
    let app = app_of c.args.app.now in
    still_can app c.args.board.now
    (moves_at app c.args.board.now (moment c.args.core.now c.args.registers.now)
    (happenings (take c.loop-line.line-index c.args.lines.now)))
    c.args.core.now c.loop-line.core c.loop-line.invariant.run.leads.machine c.requires.can

pub run_line-requires-clause-few : goal.run_line-requires-clause-few
run_line-requires-clause-few g c =
    let script = c.args.lines.now in
    let i = c.loop-line.line-index in
    let at : i < length script = omega arith in
    steps_few script i c.line-item.result at c.line-item.is (app_of c.args.app.now) c.args.board.now c.requires.script
    (moment c.args.core.now c.args.registers.now) (moment c.loop-line.core c.loop-line.registers) c.requires.fresh
    c.loop-line.invariant.run.leads

pub run_line-requires-clause-early : goal.run_line-requires-clause-early
run_line-requires-clause-early g c =
    let script = c.args.lines.now in
    let i = c.loop-line.line-index in
    let at : i < length script = omega arith in
    time_early script i c.line-item.result at c.line-item.is (app_of c.args.app.now) c.args.board.now c.requires.script
    (moment c.args.core.now c.args.registers.now) (moment c.loop-line.core c.loop-line.registers) c.requires.fresh
    c.loop-line.invariant.run.leads

pub run_line-requires-clause-declared : goal.run_line-requires-clause-declared
run_line-requires-clause-declared g c =
    let script = c.args.lines.now in
    let i = c.loop-line.line-index in
    let at : i < length script = omega arith in
    let line : GivenLine = c.line-item.result in
    subst (λ (img : Image). HasNames img.names (asked_line line))
    (sym c.loop-line.invariant.run.leads.machine.image)
    (one_named script i line at c.line-item.is c.args.core.now.image.names c.requires.declared)

pub returns-in_err-run_line-clause-err : goal.returns-in_err-run_line-clause-err
returns-in_err-run_line-clause-err g c =
    let script = c.args.lines.now in
    let i = c.loop-line.line-index in
    let at : i < length script = omega arith in
    on_err_from c.from_residual.result
    (line_cut script i c.line-item.result at c.line-item.is (app_of c.args.app.now) c.args.board.now
    (moment c.args.core.now c.args.registers.now) (moment c.loop-line.core c.loop-line.registers)
    (moment c.run_line.new.core c.run_line.new.registers) _ _ _ c.args.held.now.items _
    c.loop-line.invariant.run c.in_err-run_line.ensures.err)

pub loop-line-preserved : goal.loop-line-preserved
loop-line-preserved g c =
    let script = c.args.lines.now in
    let i = c.loop-line.line-index in
    let at : i < length script = omega arith in
    record {
      run =
          line_more script i c.line-item.result at c.line-item.is (app_of c.args.app.now) c.args.board.now
          (moment c.args.core.now c.args.registers.now) (moment c.loop-line.core c.loop-line.registers)
          (moment c.run_line.new.core c.run_line.new.registers) _ _ _
          c.args.held.now.items _ c.run_line.new.held.items c.loop-line.invariant.run c.in_ok-run_line.ensures.ok;
      quiet = c.in_ok-run_line.ensures.quiet ∙ c.loop-line.invariant.quiet;
    }

pub returns-clause-ok : goal.returns-clause-ok
returns-clause-ok g c =
    let script = c.args.lines.now in
    let all : take c.loop-line.line-index script ≡ script = take_all c.loop-line.line-index script (omega arith) in
    subst (λ (s : List GivenLine).
    Ran (app_of c.args.app.now) c.args.board.now (happenings s) (moment c.args.core.now c.args.registers.now)
    (moment c.loop-line.core c.loop-line.registers) (g.K.Sink.taken c.args.out.now) (g.K.Sink.taken c.loop-line.out)
    c.args.held.now.items c.loop-line.held.items)
    all c.loop-line.invariant.run
