-- The inputs of a target are read from devices into local resources of hardware tasks.
use Rattle.std.proofs.Common.{◌≡◌, ℕ, true, List, [], ◌∷◌, find, Option, Some, None, option_map, IfSome}
use Rattle.std.proofs.Common.{refl, sym, ap}
use Rattle.std.specs.List.{AllByRecursion, cons_option}
use Rattle.std.proofs.lemmas.Bool.{eqb-true}
use Rattle.rt_lemmas.proofs.Lists.{find_has, found_passes}
use Rattle.rt_ids.specs.Lists.{then_from}
use Rattle.rt_app.specs.Layout.{local_at}
use Rattle.rt_app.specs.Tree.{App}
use Rattle.rt_board.specs.Board.{Board, IsInput}
use Rattle.rt_board.specs.declared.board.Input.{Input as Writes}
use Rattle.rt_given.specs.Given.{input_irq}
use Rattle.rt_native.specs.declared.target.Input.{Input}
use Rattle.rt_native_runs.specs.Running.{IsWired}
use Rattle.rt_target.specs.Chip.{AreFacts, is_in_range}
use Rattle.rt_target.specs.declared.fact.Fact.{Fact}
use Rattle.rt_target.specs.declared.fact.Fact.TheVariants.{Word}
use Rattle.rt_topx.specs.Target.{input_read, inputs_of, is_of_local}
use Rattle.rt_topx.proofs.Chips.{address_is}
use Rattle.rt_topx.proofs.Regions.{in_ranges}

module _ (app : App) (board : Board) (each : AllByRecursion (IsInput app) board.inputs) where
  abbrev input_at : ℕ → ℕ → ℕ → Input
  input_at local a irq = record { irq = irq; cell = local_at app local; address = a }

  one_wired : (fact : Fact) → is_in_range fact ≡ true → IfSome (input_read app board fact) (IsWired app)
  one_wired (Word local a) range = by (find (is_of_local local) board.inputs) refl
    where
      made : (w : Writes) → find (is_of_local local) board.inputs ≡ Some w → (o : Option ℕ) → input_irq app w ≡ o
          → IfSome (option_map (input_at local a) o) (IsWired app)
      made w is None none = tt
      made w is (Some irq) bound = record {
        writes = record {
          writes = w;
          may_write = find_has (IsInput app) (is_of_local local) board.inputs w each is;
          cell = ap (local_at app) (sym (eqb-true w.local local
              (found_passes (is_of_local local) board.inputs w is)));
          irq = bound;
        };
        aligned = (address_is a range).1;
        is_word = (address_is a range).0;
      }

      by : (o : Option Writes) → find (is_of_local local) board.inputs ≡ o
          → IfSome (option_map (input_at local a) (then_from o (input_irq app))) (IsWired app)
      by None is = tt
      by (Some w) is = made w is (input_irq app w) refl
  one_wired fact range = tt

  all_wired : (facts : List Fact) → AllByRecursion (λ f. is_in_range f ≡ true) facts
      → AllByRecursion (IsWired app) (inputs_of app board facts)
  all_wired [] ranges = tt
  all_wired (fact ∷ facts) ranges =
      more (input_read app board fact) (one_wired fact ranges.0) (all_wired facts ranges.1)
    where
      more : (o : Option Input) → IfSome o (IsWired app)
          → AllByRecursion (IsWired app) (inputs_of app board facts)
          → AllByRecursion (IsWired app) (cons_option o (inputs_of app board facts))
      more None wired rest = rest
      more (Some input) wired rest = (wired, rest)

  pub inputs_are_wired : (facts : List Fact) → AreFacts app facts
      → AllByRecursion (IsWired app) (inputs_of app board facts)
  inputs_are_wired facts are = all_wired facts (in_ranges app [] facts are)
