-- What holds of the word of memory and of all views between any two steps.
use Rattle.std.specs.Prelude.{◌≡◌, ℕ, ◌^◌, ◌<◌, Bool, true, List, [], ◌∷◌}
use mathlib.Core.Option.{some}
use mathlib.Core.List.{IsPrefix}
use lib.ListN.{get_elem?}
use Rattle.atomic_table.specs.Table.{State}
use Rattle.rt_values.specs.declared.call.Call.{Call}
use Rattle.rt_values.specs.declared.view.View.{View}
use Rattle.rt_values.specs.Object.{waiting}
use Rattle.rt_values.specs.History.{IsLegal, EndsWith, gives, takes}

-- What a seat has seen is a beginning of the history. So no step can change what the history has: where the other seat
-- has seen all of it, a step only adds to its end. A seat that may give knows all gives, one that may take all takes.
-- One that may do both is alone, so that the history ends with what it has taken since it took in the other.
pub record Knows (history : List Call) (v : View) : Type 0 where
  pub seen : IsPrefix v.seen history
  pub given : v.gives ≡ true → gives history ≡ v.given
  pub taken : v.takes ≡ true → takes history ≡ v.taken
  pub last : v.gives ≡ true → v.takes ≡ true → EndsWith history v.last

-- every seat does
abbrev pub AllKnow : List Call → List View → Type 0
AllKnow history views = (seat : ℕ) (v : View) → get_elem? views seat ≡ some v → Knows history v

-- at most one seat may do so
abbrev pub AtMostOne : (View → Bool) → List View → Type 0
AtMostOne may views = (i j : ℕ) (v w : View) → get_elem? views i ≡ some v → get_elem? views j ≡ some w
    → may v ≡ true → may w ≡ true → i ≡ j

-- a legal history leaves what waits in the word of memory, whose bits above bit 32 are 0
pub record HistoryStands (words : List ℕ) (views : List View) (history : List Call) (word : ℕ) : Type 0 where
  pub one : words ≡ word ∷ []
  pub small : word < 2 ^ 33
  pub legal : IsLegal history (waiting word)
  pub known : AllKnow history views
  pub one_gives : AtMostOne (λ v. v.gives) views
  pub one_takes : AtMostOne (λ v. v.takes) views

-- there is one such history
abbrev pub HasHistory : State (Unit {0}) View → Type 0
HasHistory s = (history : List Call) × (word : ℕ) × HistoryStands s.words s.views history word
