-- The rows of deadlines, one handler more.
use Rattle.std.proofs.Common.{◌≡◌, ℕ, ◌+◌, ◌<◌, List, [], ◌∷◌, ◌++◌, flat_map, take, get_or, length, Option, Some, None}
use Rattle.std.proofs.Common.{sym, ap, subst, ◌∙◌, append-nil}
use Rattle.rt_lemmas.proofs.Lists.{flat_map_next}
use Rattle.rt_app.specs.Tree.{App}
use Rattle.rt_respond.specs.Limits.{Limits, deadline_of}
use Rattle.rt_respond.specs.Report.{IsJudged, if_judged}
use Rattle.rt_respond.specs.Rows.{BelongEach}
use Rattle.rt_respond.specs.declared.handler.Handler.{Handler}
use Rattle.rt_respond.specs.declared.report.Judged.{Judged}
use Rattle.rt_respond.proofs.Rows.{belong_push}

module _ (app : App) (limits : Limits) (hs : List Handler) (i : ℕ) (h : Handler) (within : i < length hs)
    (is : h ≡ get_or hs i h) (rows : List Judged)
    (so_far : BelongEach (IsJudged app limits)
    (flat_map (λ h. if_judged app limits h (deadline_of limits h.task)) (take i hs)) rows) where
  abbrev RowsThen : List Judged → Type 0
  RowsThen more = BelongEach (IsJudged app limits)
      (flat_map (λ h. if_judged app limits h (deadline_of limits h.task)) (take (i + 1) hs)) more

  longer : (o : Option ℕ) → deadline_of limits h.task ≡ o
      → flat_map (λ h. if_judged app limits h (deadline_of limits h.task)) (take (i + 1) hs)
      ≡ flat_map (λ h. if_judged app limits h (deadline_of limits h.task)) (take i hs) ++ if_judged app limits h o
  longer o has =
      flat_map_next (λ h. if_judged app limits h (deadline_of limits h.task)) hs i h within is
      ∙ ap (λ o. flat_map (λ h. if_judged app limits h (deadline_of limits h.task)) (take i hs)
      ++ if_judged app limits h o) has

  -- one that has no deadline
  pub judged_none : deadline_of limits h.task ≡ None → RowsThen rows
  judged_none none =
      subst (λ xs. BelongEach (IsJudged app limits) xs rows)
      (sym (longer None none
      ∙ append-nil (flat_map (λ h. if_judged app limits h (deadline_of limits h.task)) (take i hs)))) so_far

  -- one that has
  pub judged_one : (steps : ℕ) → deadline_of limits h.task ≡ Some steps → (row : Judged) (more : List Judged)
      → IsJudged app limits h row → more ≡ rows ++ row ∷ [] → RowsThen more
  judged_one steps some row more judged pushed =
      subst (λ xs. BelongEach (IsJudged app limits) xs more) (sym (longer (Some steps) some))
      (subst (BelongEach (IsJudged app limits)
      (flat_map (λ h. if_judged app limits h (deadline_of limits h.task)) (take i hs) ++ h ∷ [])) (sym pushed)
      (belong_push (IsJudged app limits)
      (flat_map (λ h. if_judged app limits h (deadline_of limits h.task)) (take i hs)) rows h row so_far judged))
