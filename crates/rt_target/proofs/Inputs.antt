-- The inputs behind a line are inputs of the application, none twice.
use Rattle.std.proofs.Common.{◌≡◌, ℕ, ◌==◌, inl, inr, false, List, [], ◌∷◌, ◌++◌, map, sym, subst, ◌∙◌}
use Rattle.std.proofs.lemmas.List.{map-append}
use Rattle.rt_lemmas.proofs.Bools.{true_and_false}
use Rattle.rt_lemmas.proofs.Membership.{all_append, any_contained, contains_cases, contains_none}
use Rattle.rt_ids.specs.Lists.{AreDifferent}
use Rattle.rt_ids.proofs.Lists.{list_any-map}
use Rattle.rt_app.specs.Tree.{App}
use Rattle.rt_app.proofs.Different.{different_append, different_cons, different_none}
use Rattle.rt_board.specs.Board.{Board, is_written, IsInput, AreInputs}
use Rattle.rt_board.specs.declared.board.Input.{Input}
use Rattle.rt_board.specs.Told.{ComesBehind}

one_more : (app : App) (board : Board) (input : Input) → AreInputs app board.inputs → IsInput app input
    → is_written board input.local ≡ false
    → AreInputs app (board.inputs ++ input ∷ [])
one_more app board input are new fresh =
    let locals = map (λ (i : Input). i.local) board.inputs in
    record {
      each = all_append (IsInput app) board.inputs (input ∷ []) are.each (new, tt);
      once =
          subst AreDifferent (sym (map-append (λ (i : Input). i.local) board.inputs (input ∷ [])))
          (different_append locals (input.local ∷ []) are.once
          (different_cons input.local [] (contains_none input.local) different_none)
          (λ n there here. elim (contains_cases input.local [] n here) [
            | inl same ↦ true_and_false (is_written board n)
                (sym (list_any-map (λ (i : Input). i.local) (λ k. k == n) board.inputs) ∙ any_contained n locals there)
                (subst (λ k. is_written board k ≡ false) same fresh)
            | inr none ↦ contains_none n none
          ]));
    }

-- boards of inputs
abbrev pub AreFine : App → Board → Type 0
AreFine app board = AreInputs app board.inputs

pub behind_line : (app : App) (board u : Board) (line : List ℕ) → AreFine app board → ComesBehind app board line u
    → AreFine app u
behind_line app board u line are (inl skipped) = subst (AreFine app) (sym skipped.1) are
behind_line app board u line are (inr adds) =
    subst (AreFine app) (sym adds.1) (one_more app board adds.0 are adds.2 adds.3)
