use Rattle.std.proofs.Common.{sym, ◌∙◌}
use Rattle.rt_lemmas.proofs.Bools.{true_and_false}
use Rattle.rt_app.specs.View.{app_of}
use Rattle.rt_respond.specs.Form.{is_of_form}
use Rattle.rt_respond.proofs.answer.answer_of.Goals as goal

pub returns : goal.returns
returns c = record {
  of_form = λ form. record {
    report = c.in_ok-report.report;
    is_report = c.in_ok-report.ensures;
    text = c.in_ok-report_text.ensures;
    is_late = c.is_late.ensures;
  };
  other_form = λ none.
      absurd (true_and_false (is_of_form (app_of c.args.app.now)) (sym c.is_of_form.ensures ∙ c.if-not-is_of_form.false)
      none);
}
