use Rattle.std.proofs.Common.{List, sym, subst, ap, arith, refl}
use Rattle.std.proofs.lemmas.Result.{on_ok_weaker, on_err_weaker}
use Rattle.rt_lemmas.proofs.Results.{on_err_from}
use Rattle.rt_ids.specs.Event.{steps}
use Rattle.rt_app.specs.View.{app_of}
use Rattle.rt_script.specs.Script.{IsScript, HasNames}
use Rattle.rt_given.specs.Given.{asked}
use Rattle.rt_given.specs.declared.line.GivenLine.{GivenLine}
use Rattle.rt_run.proofs.Known.{steps_below}
use Rattle.rt_inputs.specs.Inputs.{events_of}
use Rattle.rt_inputs.specs.Script.{happenings}
use Rattle.rt_inputs.specs.Inside.Ran.{moment}
use Rattle.rt_inputs.proofs.Known.{steps_led}
use Rattle.rt_inputs.proofs.Scripted.{happened_length, can_run, cut_text, cut_off, finished, total_cut, total_off}
use Rattle.rt_inputs.proofs.Scripted.{all_under, ran_same, cut_same}
use Rattle.rt_inputs.proofs.running.run_with_inputs.Goals as goal

pub run_lines-requires-clause-can : goal.run_lines-requires-clause-can
run_lines-requires-clause-can g c =
    can_run (app_of c.args.app.now) c.args.core.now c.requires.accepted c.requires.image c.args.board.now
    c.requires.inputs c.requires.fresh c.requires.lines

pub run_lines-requires-clause-script : goal.run_lines-requires-clause-script
run_lines-requires-clause-script g c =
    subst (λ (s : List GivenLine). IsScript (asked s)) (sym c.lines-lines.ensures.lines) c.lines-lines.ensures.script

pub run_lines-requires-clause-declared : goal.run_lines-requires-clause-declared
run_lines-requires-clause-declared g c =
    subst (λ (s : List GivenLine). HasNames c.args.core.now.image.names (asked s)) (sym c.lines-lines.ensures.lines)
    c.requires.declared

pub put_all_held-requires : goal.put_all_held-requires
put_all_held-requires g c =
    let script = c.args.script.now in
    omega (
      arith,
      c.steps.ensures,
      steps_led (app_of c.args.app.now) c.args.board.now (happenings c.lines-lines.result.now)
          (moment c.args.core.now c.new-registers.result) (moment c.run_lines.new.core c.run_lines.new.registers)
          c.in_ok-run_lines.ensures.ok.leads,
      ap (λ (s : List GivenLine). steps (events_of (happenings s))) c.lines-lines.ensures.lines,
      c.requires.fresh.steps,
      steps_below (events_of (happenings script)),
      happened_length script,
      c.lines-lines.ensures.script.few,
    )

pub returns-in_err-run_lines-clause-err : goal.returns-in_err-run_lines-clause-err
returns-in_err-run_lines-clause-err g c =
    let app = app_of c.args.app.now in
    let board = c.args.board.now in
    let core = c.args.core.now in
    let after = c.run_lines.new.core in
    let words = c.new-registers.result in
    let held = c.new-held.result.items in
    on_err_from c.from_residual.result
    (cut_text app board core after c.args.script.now c.requires.fresh words c.new-registers.ensures _ _ held
    c.new-held.ensures c.run_lines.new.registers
    (cut_same app board _ c.args.script.now (moment core words) (moment after c.run_lines.new.registers) _ _ held
    c.lines-lines.ensures.lines c.in_err-run_lines.ensures.err))

pub returns-in_err-run_lines-clause-part : goal.returns-in_err-run_lines-clause-part
returns-in_err-run_lines-clause-part g c =
    let app = app_of c.args.app.now in
    let board = c.args.board.now in
    let core = c.args.core.now in
    let after = c.run_lines.new.core in
    let words = c.new-registers.result in
    let held = c.new-held.result.items in
    on_err_from c.from_residual.result
    (cut_off app board core after c.args.script.now c.requires.fresh words c.new-registers.ensures _ _ held
    c.new-held.ensures c.run_lines.new.registers
    (cut_same app board _ c.args.script.now (moment core words) (moment after c.run_lines.new.registers) _ _ held
    c.lines-lines.ensures.lines c.in_err-run_lines.ensures.err))

pub returns-clause-ok : goal.returns-clause-ok
returns-clause-ok g c =
    let app = app_of c.args.app.now in
    let board = c.args.board.now in
    let script = c.args.script.now in
    let core = c.args.core.now in
    let after = c.run_lines.new.core in
    let words = c.new-registers.result in
    let held = c.new-held.result.items in
    let last = moment after c.run_lines.new.registers in
    let run = ran_same app board _ script (moment core words) last _ _ held _ c.lines-lines.ensures.lines
    c.in_ok-run_lines.ensures.ok in
    on_ok_weaker c.put_all_held.result
    (finished app board core after script c.requires.fresh words c.new-registers.ensures _ _ held c.new-held.ensures
    last refl _ c.run_lines.new.held.items run c.steps.result c.steps.ensures)
    c.put_all_held.ensures.ok

pub returns-clause-all : goal.returns-clause-all
returns-clause-all g c =
    let app = app_of c.args.app.now in
    let board = c.args.board.now in
    let script = c.args.script.now in
    let core = c.args.core.now in
    let after = c.run_lines.new.core in
    let words = c.new-registers.result in
    let held = c.new-held.result.items in
    let last = moment after c.run_lines.new.registers in
    let run = ran_same app board _ script (moment core words) last _ _ held _ c.lines-lines.ensures.lines
    c.in_ok-run_lines.ensures.ok in
    on_ok_weaker c.put_all_held.result
    (λ _. all_under app board core after script c.requires.fresh words c.new-registers.ensures _ _ held
    c.new-held.ensures last refl (g.K.Sink.taken c.args.out.now) c.run_lines.new.held.items run
    c.steps.result c.steps.ensures)
    c.put_all_held.ensures.ok

pub returns-clause-err : goal.returns-clause-err
returns-clause-err g c =
    let app = app_of c.args.app.now in
    let board = c.args.board.now in
    let script = c.args.script.now in
    let core = c.args.core.now in
    let after = c.run_lines.new.core in
    let words = c.new-registers.result in
    let held = c.new-held.result.items in
    let last = moment after c.run_lines.new.registers in
    let run = ran_same app board _ script (moment core words) last _ _ held _ c.lines-lines.ensures.lines
    c.in_ok-run_lines.ensures.ok in
    on_err_weaker c.put_all_held.result
    (total_cut app board core after script c.requires.fresh words c.new-registers.ensures _ _ held c.new-held.ensures
    last refl _ c.run_lines.new.held.items run c.steps.result c.steps.ensures)
    c.put_all_held.ensures.err

pub returns-clause-part : goal.returns-clause-part
returns-clause-part g c =
    let app = app_of c.args.app.now in
    let board = c.args.board.now in
    let script = c.args.script.now in
    let core = c.args.core.now in
    let after = c.run_lines.new.core in
    let words = c.new-registers.result in
    let held = c.new-held.result.items in
    let last = moment after c.run_lines.new.registers in
    let run = ran_same app board _ script (moment core words) last _ _ held _ c.lines-lines.ensures.lines
    c.in_ok-run_lines.ensures.ok in
    on_err_weaker c.put_all_held.result
    (total_off app board core after script c.requires.fresh words c.new-registers.ensures _ _ held c.new-held.ensures
    last refl _ c.run_lines.new.held.items run c.steps.result c.steps.ensures c.put_all_held.ensures.few)
    c.put_all_held.ensures.err
