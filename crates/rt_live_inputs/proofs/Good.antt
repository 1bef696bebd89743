-- What devices give by a mailbox has 32 bits, so that the runs are good.
use Rattle.std.proofs.Common.{ℕ, zero, suc, List, [], ◌∷◌, ◌++◌, map, flat_map, replicate, zip, Option}
use Rattle.std.proofs.Common.{Some, None}
use Rattle.std.specs.List.{AllByRecursion}
use Rattle.rt_lemmas.proofs.Membership.{all_append}
use Rattle.rt_ids.specs.Event.{Event, Arrive, Tick}
use Rattle.rt_board.specs.Board.{Board}
use Rattle.rt_given.specs.Given.{GivesInput, GiveInputs}
use Rattle.rt_given.specs.declared.line.GivenLine.{GivenLine}
use Rattle.rt_given.specs.declared.line.GivenLine.TheVariants as given
use Rattle.rt_inputs.specs.Inputs.{AreWords, Happening, Comes, Gives}
use Rattle.rt_inputs.proofs.Free.{runs_with_inputs_are_good}
use Rattle.rt_live_inputs.specs.Boxes.{boxes}
use Rattle.rt_live_inputs.specs.declared.boxes.BoxKind.{BoxKind as Box}
use Rattle.rt_live_inputs.specs.Looking.{Found, Happens, Looks, InputTurn, box_happenings, happenings_of, line_turns}
use Rattle.rt_live_inputs.specs.Looking.{look_happenings, own_steps, step_turns, turns}
use Rattle.rt_live_inputs.specs.Histories.{IsWhole}
use Rattle.rt_live_inputs.specs.Inside.Turning.{IsFoundWord}
use Rattle.rt_live_inputs.specs.Laws.{LiveRunsAreGood}
use Rattle.rt_live.specs.Interleaving.{look_arrivals}

-- words behind words
both_words : (xs ys : List Happening) → AreWords xs → AreWords ys → AreWords (xs ++ ys)
both_words [] ys a b = b
both_words (Comes event ∷ xs) ys a b = both_words xs ys a b
both_words (Gives local word ∷ xs) ys a b = (a.0, both_words xs ys a.1 b)

-- events give no words
no_words_of : (events : List Event) → AreWords (map Comes events)
no_words_of [] = tt
no_words_of (event ∷ events) = no_words_of events

-- what waited in mailboxes
box_words : (all : List Box) (waited : List (Option ℕ)) → AllByRecursion IsFoundWord waited
    → AreWords (flat_map box_happenings (zip all waited))
box_words [] waited small = tt
box_words (box ∷ all) [] small = tt
box_words (box ∷ all) (None ∷ waited) small = box_words all waited small.1
box_words (box ∷ all) (Some word ∷ waited) small = (small.0, box_words all waited small.1)

look_words : (all : List Box) (one : Found) → AllByRecursion IsFoundWord one.waited → AreWords (look_happenings all one)
look_words all one small =
    both_words (map Comes (look_arrivals one.row)) (flat_map box_happenings (zip all one.waited))
    (no_words_of (look_arrivals one.row)) (box_words all one.waited small)

-- a turn gives a word of 32 bits, if it gives one
abbrev GivesSmall : InputTurn → Type 0
GivesSmall Looks = Unit {0}
GivesSmall (Happens happening) = AreWords (happening ∷ [])

module _ (script : List GivenLine) where
  turn_words : (all : List Box) (ts : List InputTurn) (found : List Found) → AllByRecursion GivesSmall ts
      → AllByRecursion (IsWhole script) found → AreWords (happenings_of all ts found)
  turn_words all [] found small whole = tt
  turn_words all (Happens (Comes event) ∷ ts) found small whole = turn_words all ts found small.1 whole
  turn_words all (Happens (Gives local word) ∷ ts) found small whole =
      (small.0.0, turn_words all ts found small.1 whole)
  turn_words all (Looks ∷ ts) [] small whole = tt
  turn_words all (Looks ∷ ts) (one ∷ found) small whole =
      both_words (look_happenings all one) (happenings_of all ts found) (look_words all one whole.0.small)
      (turn_words all ts found small.1 whole.1)

-- steps give no words
small_steps : (n : ℕ) → AllByRecursion GivesSmall (flat_map (λ t. t) (replicate n step_turns))
small_steps zero = tt
small_steps (suc n) = (tt, (tt, small_steps n))

-- an event so many times gives none
small_events : (n : ℕ) (event : Event) → AllByRecursion GivesSmall (replicate n (Happens (Comes event)))
small_events zero event = tt
small_events (suc n) event = (tt, small_events n event)

line_small : (board : Board) (line : GivenLine) → GivesInput board line → AllByRecursion GivesSmall (line_turns line)
line_small board (given.Steps n) is = small_steps n
line_small board (given.Ticks n) is = small_events n Tick
line_small board (given.Pends irq n) is = small_events n (Arrive irq)
line_small board (given.Device d irq n) is = tt
line_small board (given.Counts d irq n local first) is = tt
line_small board (given.Draws d irq n local seed) is = tt
line_small board (given.Gives local word) is = ((is.1, tt), tt)

lines_small : (board : Board) (lines : List GivenLine) → GiveInputs board lines
    → AllByRecursion GivesSmall (flat_map line_turns lines)
lines_small board [] are = tt
lines_small board (line ∷ lines) are =
    all_append GivesSmall (line_turns line) (flat_map line_turns lines) (line_small board line are.0)
    (lines_small board lines are.1)

pub live_runs_are_good : LiveRunsAreGood
live_runs_are_good app img accepted image board inputs script found give are declared fit =
    runs_with_inputs_are_good app img accepted image board inputs
    (happenings_of (boxes script) (turns script) found)
    (turn_words script (boxes script) (turns script) found
    (all_append GivesSmall (flat_map line_turns script)
    (Looks ∷ flat_map (λ t. t) (replicate (own_steps script) step_turns)) (lines_small board script give)
    (tt, small_steps (own_steps script))) are.whole)
    declared fit
