use Rattle.std.proofs.Common.{List, sym, subst, ap, arith}
use Rattle.std.proofs.lemmas.Result.{on_ok_weaker, on_err_weaker}
use Rattle.rt_lemmas.proofs.Results.{on_err_from}
use Rattle.rt_ids.specs.Event.{steps}
use Rattle.rt_script.specs.Script.{IsScript, HasNames, events}
use Rattle.rt_script.specs.declared.line.Line.{Line}
use Rattle.rt_run.proofs.Known.{steps_below}
use Rattle.rt_run.proofs.Scripted.{events_length, ran_same, cut_same, cut_text, cut_off, finished, total_cut, total_off}
use Rattle.rt_run.proofs.Brief.{text_short}
use Rattle.rt_run.proofs.script.run_script.Goals as goal

pub run_lines-requires-clause-script : goal.run_lines-requires-clause-script
run_lines-requires-clause-script g c = subst IsScript (sym c.lines-lines.ensures.lines) c.lines-lines.ensures.script

pub run_lines-requires-clause-declared : goal.run_lines-requires-clause-declared
run_lines-requires-clause-declared g c =
    subst (HasNames c.args.core.now.image.names) (sym c.lines-lines.ensures.lines) c.requires.declared

pub put_end-requires : goal.put_end-requires
put_end-requires g c =
    let script = c.args.script.now in
    omega (
      arith,
      c.steps.ensures,
      c.in_ok-run_lines.ensures.ok.leads.steps,
      ap (λ (s : List Line). steps (events s)) c.lines-lines.ensures.lines,
      c.requires.fresh.steps,
      steps_below (events script),
      events_length script,
      c.lines-lines.ensures.script.few,
    )

pub returns-in_err-run_lines-clause-err : goal.returns-in_err-run_lines-clause-err
returns-in_err-run_lines-clause-err g c =
    let core = c.args.core.now in
    let after = c.run_lines.new.core in
    let held = c.new-held.result in
    let cut = cut_same _ c.args.script.now core after _ _ held c.lines-lines.ensures.lines
    c.in_err-run_lines.ensures.err in
    on_err_from c.from_residual.result
    (cut_text core after c.args.script.now c.requires.fresh _ _ held c.new-held.ensures cut)

pub returns-in_err-run_lines-clause-part : goal.returns-in_err-run_lines-clause-part
returns-in_err-run_lines-clause-part g c =
    let core = c.args.core.now in
    let after = c.run_lines.new.core in
    let held = c.new-held.result in
    let cut = cut_same _ c.args.script.now core after _ _ held c.lines-lines.ensures.lines
    c.in_err-run_lines.ensures.err in
    on_err_from c.from_residual.result
    (cut_off core after c.args.script.now c.requires.fresh _ _ held c.new-held.ensures cut)

pub returns-clause-ok : goal.returns-clause-ok
returns-clause-ok g c =
    let script = c.args.script.now in
    let core = c.args.core.now in
    let after = c.run_lines.new.core in
    let held = c.new-held.result in
    let run = ran_same _ script core after _ _ held _ c.lines-lines.ensures.lines c.in_ok-run_lines.ensures.ok in
    on_ok_weaker c.put_end.result
    (finished core after script c.requires.fresh _ _ held c.new-held.ensures _ c.run_lines.new.held run c.steps.result
    c.steps.ensures)
    c.put_end.ensures.ok

pub returns-clause-all : goal.returns-clause-all
returns-clause-all g c =
    let script = c.args.script.now in
    let core = c.args.core.now in
    let after = c.run_lines.new.core in
    let held = c.new-held.result in
    let run = ran_same _ script core after _ _ held _ c.lines-lines.ensures.lines c.in_ok-run_lines.ensures.ok in
    on_ok_weaker c.put_end.result (λ _. run.leads) c.put_end.ensures.ok

pub returns-clause-err : goal.returns-clause-err
returns-clause-err g c =
    let script = c.args.script.now in
    let core = c.args.core.now in
    let after = c.run_lines.new.core in
    let held = c.new-held.result in
    let run = ran_same _ script core after _ _ held _ c.lines-lines.ensures.lines c.in_ok-run_lines.ensures.ok in
    on_err_weaker c.put_end.result
    (total_cut core after script c.requires.fresh _ _ held c.new-held.ensures _ c.run_lines.new.held run c.steps.result
    c.steps.ensures)
    c.put_end.ensures.err

pub returns-clause-part : goal.returns-clause-part
returns-clause-part g c =
    let script = c.args.script.now in
    let core = c.args.core.now in
    let after = c.run_lines.new.core in
    let held = c.new-held.result in
    let run = ran_same _ script core after _ _ held _ c.lines-lines.ensures.lines c.in_ok-run_lines.ensures.ok in
    on_err_weaker c.put_end.result
    (total_off core after script c.requires.fresh _ _ held c.new-held.ensures _ c.run_lines.new.held run c.steps.result
    c.steps.ensures c.put_end.ensures.few)
    c.put_end.ensures.err

pub returns-clause-short : goal.returns-clause-short
returns-clause-short g c =
    let script = c.args.script.now in
    let core = c.args.core.now in
    let after = c.run_lines.new.core in
    let held = c.new-held.result in
    let run = ran_same _ script core after _ _ held _ c.lines-lines.ensures.lines c.in_ok-run_lines.ensures.ok in
    on_ok_weaker c.put_end.result
    (λ _. text_short core script c.requires.fresh c.requires.lines c.lines-lines.ensures.script run.lined)
    c.put_end.ensures.ok
