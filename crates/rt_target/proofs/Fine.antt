-- What lines tell are inputs of the application, none twice, and facts that can come one behind the other.
use Rattle.std.proofs.Common.{inl, inr, ℕ, List, [], ◌∷◌, ◌++◌, sym, subst, append_assoc, append-nil}
use Rattle.std.proofs.lemmas.Result.{IfOk-at_ok}
use Rattle.rt_app.specs.Tree.{App}
use Rattle.rt_app.specs.Names.{names_of}
use Rattle.rt_app.proofs.Different.{different_none}
use Rattle.rt_lines.specs.Reading.{Lead}
use Rattle.rt_lines.proofs.Decoded.{if_ok_from}
use Rattle.rt_lines.proofs.Reading.{kept}
use Rattle.rt_board.specs.Board.{AreInputs}
use Rattle.rt_target.specs.Chip.{CanFollow, CanGoOn, AreFacts}
use Rattle.rt_target.specs.Reading.{setup_reader}
use Rattle.rt_target.specs.Setup.{Setup, no_setup}
use Rattle.rt_target.specs.Told.{ComesBehind}
use Rattle.rt_target.specs.Wording.{with_line}
use Rattle.rt_target.specs.declared.fact.Fact.{Fact}
use Rattle.rt_target.proofs.Inputs.{behind_line}
use Rattle.rt_target.proofs.Saying.{tells}

-- one more fact
go_on_more : (app : App) (before facts : List Fact) (e : Fact) → CanGoOn app before facts
    → CanFollow app (before ++ facts) e
    → CanGoOn app before (facts ++ e ∷ [])
go_on_more app before [] e on can = (subst (λ es. CanFollow app es e) (append-nil before) can, tt)
go_on_more app before (f ∷ facts) e on can = (
  on.0,
  go_on_more app (before ++ f ∷ []) facts e on.1
      (subst (λ es. CanFollow app es e) (sym (append_assoc before (f ∷ []) facts)) can),
)

-- inputs, none twice, and facts that can come one behind the other
pub record IsFine (app : App) (setup : Setup) : Type 0 where
  pub inputs : AreInputs app setup.board.inputs
  pub facts : AreFacts app setup.facts

fine_behind : (app : App) (setup u : Setup) (line : List ℕ) → IsFine app setup → ComesBehind app setup line u
    → IsFine app u
fine_behind app setup u line fine (inl skipped) = subst (IsFine app) (sym skipped.1) fine
fine_behind app setup u line fine (inr (inl adds)) =
    subst (IsFine app) (sym adds.1)
    (record { inputs = behind_line app setup.board adds.0 line fine.inputs (inr adds.2); facts = fine.facts })
fine_behind app setup u line fine (inr (inr adds)) =
    subst (IsFine app) (sym adds.1)
    (record { inputs = fine.inputs; facts = go_on_more app [] setup.facts adds.0 fine.facts adds.2 })

-- what lines tell is fine
pub lead_fine : (app : App) (ls : List (List ℕ)) (setup : Setup) → Lead (setup_reader app) no_setup ls setup
    → IsFine app setup
lead_fine app ls setup lead =
    kept (setup_reader app) (IsFine app)
    (λ s line fine. if_ok_from (with_line (names_of app) app s line) (IsFine app)
    (λ u given. fine_behind app s u line fine (IfOk-at_ok (ComesBehind app s line) given (tells app s line))))
    no_setup setup ls lead (record { inputs = record { each = tt; once = different_none }; facts = tt })
