-- What is answered is one: a response time, whether a deadline is met, and whether one is late.
use Rattle.std.proofs.Common.{◌≡◌, ℕ, ◌||◌, Bool, true, false, not, List, [], ◌∷◌, Option, Some, None, IsSome}
use Rattle.std.proofs.Common.{refl, sym, ap, ◌∙◌, arith}
use Rattle.std.specs.List.{list_any}
use Rattle.std.proofs.Math.Nat.{le_antisymm}
use Rattle.std.proofs.lemmas.Option.{none-some}
use Rattle.rt_app.specs.Tree.{App}
use Rattle.rt_respond.specs.Answer.{IsAnswer}
use Rattle.rt_respond.specs.Form.{is_of_form}
use Rattle.rt_respond.specs.Limits.{Limits, AreLimits, deadline_of}
use Rattle.rt_respond.specs.Report.{IsJudged, is_within, judged_handlers}
use Rattle.rt_respond.specs.Response.{needed, Suffices, IsResponse}
use Rattle.rt_respond.specs.Rows.{BelongEach}
use Rattle.rt_respond.specs.declared.answer.Answer.{Answer}
use Rattle.rt_respond.specs.declared.handler.Quantity.TheVariants as counted
use Rattle.rt_respond.specs.declared.handler.Handler.{Handler}
use Rattle.rt_respond.specs.declared.report.Judged.{Judged}
use Rattle.rt_respond.specs.declared.response.Response.{Response}
use Rattle.rt_respond.specs.declared.response.Response.TheVariants as response
use Rattle.rt_respond.proofs.Demand.{needed_rises, some_before}

missing : (o : Option ℕ) → o ≡ None → IsSome o → ⊥
missing None none some = cc
missing (Some n) none some = none-some n (sym none)

one_number : (o : Option ℕ) (a b : ℕ) → o ≡ Some a → o ≡ Some b → a ≡ b
one_number o a b first second = cc

module _ (app : App) (limits : Limits) (fine : AreLimits app limits) where
  -- where a number is missing at first, it is missing in more core steps
  never : (i : Handler) (steps : ℕ) → needed app limits.every counted.Steps i 1 ≡ None
      → Suffices app limits.every i steps → ⊥
  never i steps none enough =
      let some = enough.some in
      missing (needed app limits.every counted.Steps i 1) none
      (some_before (needed app limits.every counted.Steps i 1)
      (needed app limits.every counted.Steps i steps) enough.need
      (needed_rises app limits.every counted.Steps i 1 steps (omega arith) (omega
      (arith, some)) fine.every.positive) enough.needs)

  one_response : (i : Handler) (a b : Response) → IsResponse app limits.every i a → IsResponse app limits.every i b
      → a ≡ b
  one_response i (response.Steps n) (response.Steps m) x y =
      ap response.Steps (le_antisymm (x.2 m y.0) (y.2 n x.0))
  one_response i (response.Steps n) response.Cycle x y = absurd (never i n y x.0)
  one_response i (response.Steps n) response.Over x y = absurd (y.1 n x.1 x.0)
  one_response i response.Cycle (response.Steps m) x y = absurd (never i m x y.0)
  one_response i response.Cycle response.Cycle x y = refl
  one_response i response.Cycle response.Over x y = absurd (missing (needed app limits.every counted.Steps i 1) x y.0)
  one_response i response.Over (response.Steps m) x y = absurd (x.1 m y.1 y.0)
  one_response i response.Over response.Cycle x y = absurd (missing (needed app limits.every counted.Steps i 1) y x.0)
  one_response i response.Over response.Over x y = refl

  one_is_met : (h : Handler) (row other : Judged) → IsJudged app limits h row → IsJudged app limits h other
      → row.is_met ≡ other.is_met
  one_is_met h row other x y =
      x.is_met ∙ ap (is_within row.deadline) (one_response h x.response y.response x.is_response y.is_response)
      ∙ ap (λ steps. is_within steps y.response)
      (one_number (deadline_of limits h.task) row.deadline other.deadline x.deadline y.deadline) ∙ sym y.is_met

  any_late : (hs : List Handler) (rows others : List Judged) → BelongEach (IsJudged app limits) hs rows
      → BelongEach (IsJudged app limits) hs others
      → list_any (λ row. not row.is_met) rows ≡ list_any (λ row. not row.is_met) others
  any_late [] [] [] x y = refl
  any_late [] [] (other ∷ others) x y = absurd y
  any_late [] (row ∷ rows) others x y = absurd x
  any_late (h ∷ hs) [] others x y = absurd x
  any_late (h ∷ hs) (row ∷ rows) [] x y = absurd y
  any_late (h ∷ hs) (row ∷ rows) (other ∷ others) x y =
      ap (λ met. not met || list_any (λ row. not row.is_met) rows) (one_is_met h row other x.0 y.0)
      ∙ ap (λ late. not other.is_met || late) (any_late hs rows others x.1 y.1)

  pub one_is_late : (a b : Answer) → IsAnswer app limits a → IsAnswer app limits b → a.is_late ≡ b.is_late
  one_is_late a b x y = by (is_of_form app) refl
    where
      by : (form : Bool) → is_of_form app ≡ form → a.is_late ≡ b.is_late
      by true form =
          let one = x.of_form form in
          let other = y.of_form form in
          one.is_late
          ∙ any_late (judged_handlers app limits) one.report.judged.items other.report.judged.items
          one.is_report.judged other.is_report.judged
          ∙ sym other.is_late
      by false form = (x.other_form form).1 ∙ sym (y.other_form form).1
