-- What the views of all seats have to do with one history.
use Rattle.std.specs.Prelude.{◌≡◌, ◌≢◌, ℕ, List, [], ◌∷◌, Contains}
use mathlib.Core.Option.{some}
use mathlib.Core.List.{IsPrefix}
use lib.ListN.{get_elem?}
use Rattle.atomic_table.specs.Table.{Me}
use Rattle.rt_words.specs.declared.view.Part.{Part}
use Rattle.rt_words.specs.declared.view.View.{View}
use Rattle.rt_words.specs.History.{Entry, part}
use Rattle.rt_words.specs.Lines.{numbers}

-- what a seat knows, and what it holds
abbrev pub Seat : Type 0
Seat = Me (Unit {0}) View

-- the seat of a line: a spent one has the number 255 too, and is not the first
abbrev pub IsLive : ℕ → View → Type 0
IsLive seat v = v.line ≡ 255 → seat ≡ 0

-- the calls of another line than the first are its seat's; the first line made it, and has not gathered it
pub record InUse (history : List Entry) (maker v : View) : Type 0 where
  pub same_calls : part history v.line ≡ v.calls
  pub made : Contains maker.made v.line
  pub ungathered : ¬ Contains (numbers maker.gathered) v.line

-- the calls of a gathered number are those that the first line took in
pub record Gathered (history : List Entry) (maker : View) (p : Part) : Type 0 where
  pub same_calls : part history p.line ≡ p.calls
  pub made : Contains maker.made p.line
  pub other : p.line ≢ 255

-- no number is twice in a list
abbrev pub Distinct : List ℕ → Type 0
Distinct [] = Unit {0}
Distinct (n ∷ ns) = (¬ Contains ns n) × Distinct ns

-- the history has the calls of the first line, of the others and of the gathered ones, and no others
pub record Seated (history : List Entry) (views : List View) (maker : View) : Type 0 where
  pub first : get_elem? views 0 ≡ some maker
  pub number : maker.line ≡ 255
  pub own : part history 255 ≡ maker.calls
  pub lines : (seat : ℕ) (v : View) → get_elem? views seat ≡ some v → v.line ≢ 255 → InUse history maker v
  pub apart : (i j : ℕ) (v w : View) → get_elem? views i ≡ some v → get_elem? views j ≡ some w → v.line ≢ 255
      → v.line ≡ w.line → i ≡ j
  pub parts : (p : Part) → Contains maker.gathered p → Gathered history maker p
  pub once : Distinct (numbers maker.gathered)
  pub unmade : (number : ℕ) → number ≢ 255 → ¬ Contains maker.made number → part history number ≡ []

-- What a seat has seen is a beginning of the history. So no step can change what the history has: where another seat
-- has seen all of it, a step only adds to its end.
abbrev pub HaveSeen : List Entry → List View → Type 0
HaveSeen history views = (seat : ℕ) (v : View) → get_elem? views seat ≡ some v → IsPrefix v.seen history

-- every seat of a line knows which bits may be pended
abbrev pub AllKnow : List ℕ → List View → Type 0
AllKnow may views = (seat : ℕ) (v : View) → get_elem? views seat ≡ some v → IsLive seat v → v.may ≡ may
