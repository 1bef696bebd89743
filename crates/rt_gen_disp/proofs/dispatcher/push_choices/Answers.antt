use Rattle.rt_gen_queue.proofs.Vocabulary.{app_of, append-nil, arith, drop_all, refl, sym, ◌∙◌}
use Rattle.rt_lemmas.proofs.Results.{on_err_from}
use Rattle.rt_gen_queue.proofs.Extending.{extends_by, extends_same, extends_then}
use Rattle.rt_gen_disp.proofs.Generated.{at_most_one, choices_next}
use Rattle.rt_gen_disp.proofs.dispatcher.push_choices.Goals as goal

pub loop-number-init : goal.loop-number-init
loop-number-init c = record { lines = refl; row = omega arith; begins = extends_same c.args.lines.now refl }

pub loop-number-preserved : goal.loop-number-preserved
loop-number-preserved c = record {
  lines =
      c.loop-number.invariant.lines
      ∙ choices_next (record {
        app = app_of c.args.plan.now.app.now;
        level = c.args.queue.now.level;
        exit = c.args.exit;
      }) c.args.plan.now.app.now.tasks.items c.loop-number.lines c.loop-number.row (omega arith)
      c.index-task.ensures ∙ rw (c.in_ok-push_task.ensures.lines, c.from-row.ensures, c.is_software.ensures) refl;
  row = omega (arith, at_most_one c.is_software.result);
  begins =
      extends_then c.args.lines.now c.loop-number.invariant.begins
      (extends_by c.loop-number.lines _ c.in_ok-push_task.ensures.lines);
}

pub returns-in_err-push_task-clause-left : goal.returns-in_err-push_task-clause-left
returns-in_err-push_task-clause-left c =
    on_err_from c.from_residual.result
    (extends_then c.args.lines.now c.loop-number.invariant.begins c.in_err-push_task.ensures.left)

pub returns-clause-lines : goal.returns-clause-lines
returns-clause-lines c =
    let none = drop_all c.loop-number.number c.args.plan.now.app.now.tasks.items (omega arith) in
    sym (c.loop-number.invariant.lines ∙ rw (none, append-nil) refl)
