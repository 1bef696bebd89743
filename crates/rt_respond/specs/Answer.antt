-- What is written, and whether a deadline is late. An application that is not of the form has one line that says so,
-- and each of its deadlines is late, since there is no number for it.
use Rattle.std.specs.Prelude.{◌≡◌, ℕ, ◌+◌, true, false, not, List, [], ◌∷◌, ◌++◌, codes, decimal, Option, Some}
use Rattle.std.specs.Prelude.{None}
use Rattle.std.specs.List.{list_any}
use Rattle.rt_ids.specs.Lists.{is_empty}
use Rattle.rt_app.specs.Tree.{Task, App}
use Rattle.rt_respond.specs.Form.{is_of_form}
use Rattle.rt_respond.specs.Limits.{Limits, deadline_of}
use Rattle.rt_respond.specs.Lines.{judged_name, report_text}
use Rattle.rt_respond.specs.Report.{IsReport}
use Rattle.rt_respond.specs.declared.answer.Answer.{Answer}
use Rattle.rt_respond.specs.declared.report.Report.{Report}

module _ (app : App) where
  -- the line of a deadline that has no number, where there is one
  abbrev pub late_text : Task → Option ℕ → List ℕ
  late_text t None = []
  late_text t (Some steps) =
      codes "late " ++ (judged_name app t t.binds ++ (codes " " ++ (decimal steps ++ codes "\n")))

  -- those of the tasks from this number on
  abbrev pub late_texts : Limits → ℕ → List Task → List ℕ
  late_texts limits n [] = []
  late_texts limits n (t ∷ ts) = late_text t (deadline_of limits n) ++ late_texts limits (n + 1) ts

  -- what is written of an application that is not of the form
  abbrev pub formless_text : Limits → List ℕ
  formless_text limits = codes "- form\n" ++ late_texts limits 0 app.tasks

-- an answer with a report
pub record Reports (app : App) (limits : Limits) (answer : Answer) : Type 0 where
  pub report : Report
  pub is_report : IsReport app limits report
  pub text : answer.text.items ≡ report_text app report
  pub is_late : answer.is_late ≡ list_any (λ row. not row.is_met) report.judged.items

-- what is answered
pub record IsAnswer (app : App) (limits : Limits) (answer : Answer) : Type 0 where
  pub of_form : is_of_form app ≡ true → Reports app limits answer
  pub other_form : is_of_form app ≡ false → (answer.text.items ≡ formless_text app limits)
      × (answer.is_late ≡ not (is_empty limits.deadlines))
