-- What came of turns on the core's side: what the looks found, what was called for them, and what happened.
use Rattle.std.specs.Prelude.{◌≡◌, ℕ, ◌^◌, ◌<◌, Bool, List, [], ◌∷◌, ◌++◌, flat_map, length, map, zip, Option, IfSome}
use Rattle.std.specs.List.{AllByRecursion}
use Rattle.rt_ids.specs.Names.{Names}
use Rattle.rt_app.specs.Tree.{App}
use Rattle.rt_words.specs.Lines.{Line}
use Rattle.rt_live.specs.Going.{FindsDeclared, IsWholeLook}
use Rattle.rt_live.specs.Interleaving.{look_arrivals, look_calls}
use Rattle.rt_board.specs.Board.{Board}
use Rattle.rt_inputs.specs.Going.{Moment}
use Rattle.rt_inputs.specs.Inputs.{Comes}
use Rattle.rt_values.specs.Sides.{TakerSide}
use Rattle.rt_values.specs.declared.call.Call.TheVariants.{Take}
use Rattle.rt_live_inputs.specs.declared.boxes.BoxKind.{BoxKind as Box}
use Rattle.rt_live_inputs.specs.Looking.{Found, InputTurn, box_happenings, happenings_of, looks}
use Rattle.rt_live_inputs.specs.Inside.Going.{CameOf}

-- a taker that took this
abbrev pub took_one : TakerSide → Option ℕ → TakerSide
took_one taker found = record taker {
  calls = taker.calls ++ Take found ∷ [];
  last = taker.last ++ Take found ∷ [];
}

-- takers of which each took once, what waited in its mailbox
abbrev pub took : List TakerSide → List (Option ℕ) → List TakerSide
took [] waited = []
took (taker ∷ takers) [] = taker ∷ takers
took (taker ∷ takers) (found ∷ waited) = took_one taker found ∷ took takers waited

-- and at each of these looks
abbrev pub took_all : List TakerSide → List Found → List TakerSide
took_all takers [] = takers
took_all takers (one ∷ found) = took_all (took takers one.waited) found

-- a word of 32 bits, or none
abbrev pub IsFoundWord : Option ℕ → Type 0
IsFoundWord word = IfSome word (λ w. w < 2 ^ 32)

-- a look at all words of a row and at so many mailboxes, of which the row had declared interrupts alone
pub record IsLook (names : Names) (boxes : ℕ) (one : Found) : Type 0 where
  pub row : IsWholeLook one.row
  pub declared : FindsDeclared names one.row
  pub waited : length one.waited ≡ boxes
  pub small : AllByRecursion IsFoundWord one.waited

-- the row's part of a look: these calls, and what arrived
pub record LooksAtRow (app : App) (board : Board) (was is : Bool) (line line' : Line) (old new : Moment)
    (before after : List ℕ) (faults faults' : ℕ) : Type 0 where
  pub found : List ℕ
  pub whole : IsWholeLook found
  pub declared : FindsDeclared old.machine.image.names found
  pub line_is : line' ≡ record line { calls = line.calls ++ look_calls found }
  pub goes : CameOf app board (map Comes (look_arrivals found)) was is old new before after faults faults'

-- the mailboxes' part
pub record LooksAtBoxes (app : App) (board : Board) (boxes : List Box) (was is : Bool) (takers takers' : List TakerSide)
    (old new : Moment) (before after : List ℕ) (faults faults' : ℕ) : Type 0 where
  pub waited : List (Option ℕ)
  pub many : length waited ≡ length boxes
  pub small : AllByRecursion IsFoundWord waited
  pub takers_are : takers' ≡ took takers waited
  pub goes : CameOf app board (flat_map box_happenings (zip boxes waited)) was is old new before after faults faults'

-- these turns were done
pub record Turns (app : App) (board : Board) (boxes : List Box) (ts : List InputTurn) (was is : Bool)
    (line line' : Line)
    (takers takers' : List TakerSide) (old new : Moment) (before after : List ℕ) (faults faults' : ℕ) : Type 0 where
  pub found : List Found
  pub many : length found ≡ looks ts
  pub each : AllByRecursion (IsLook old.machine.image.names (length boxes)) found
  pub line_is : line' ≡ record line { calls = line.calls ++ flat_map look_calls (map (λ one. one.row) found) }
  pub takers_are : takers' ≡ took_all takers found
  pub goes : CameOf app board (happenings_of boxes ts found) was is old new before after faults faults'
