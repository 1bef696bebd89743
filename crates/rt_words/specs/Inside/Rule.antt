-- What holds of the words and of all views between any two steps.
use Rattle.std.specs.Prelude.{ℕ, ◌-◌, ◌/◌, ◌^◌, ◌<◌, ◌≤◌, List, ◌++◌, length, drop, slice_index, replicate}
use Rattle.atomic_table.specs.Table.{State}
use Rattle.rt_words.specs.declared.view.View.{View}
use Rattle.rt_words.specs.Object.{IsPending}
use Rattle.rt_words.specs.History.{Entry, IsLegal, CallsLast}
use Rattle.rt_words.specs.Ending.{AllGathered}
use Rattle.rt_words.specs.Inside.Seats.{Seated, HaveSeen, AllKnow}

-- at most 32 words of 32 bits, with each bit that may be pended, and no other bit set
pub record IsRow (may words : List ℕ) : Type 0 where
  pub short : length words ≤ 32
  pub low : (k : ℕ) → slice_index words k < 2 ^ 32
  pub within : (bit : ℕ) → IsPending words bit → IsPending may bit
  pub covers : (bit : ℕ) → IsPending may bit → bit / 32 < length words

-- the words with words of 0 after them, 32 in all
abbrev pub padded_words : List ℕ → List ℕ
padded_words words = words ++ replicate (32 - length words) 0

-- A legal history leaves the words as they are, its parts are the seats' calls, and each seat has seen a beginning of
-- it. Once every line is gathered, only the maker, the first line, calls: what it has called since comes last.
pub record HistoryStands (may words : List ℕ) (views : List View) (history : List Entry) (maker : View) : Type 0 where
  pub row : IsRow may words
  pub legal : IsLegal history (padded_words words)
  pub seated : Seated history views maker
  pub seen : HaveSeen history views
  pub same_may : AllKnow may views
  pub behind : maker.since ≤ length maker.calls
  pub last : AllGathered maker.made maker.gathered → CallsLast history 255 (drop maker.since maker.calls)

-- there is one such history
abbrev pub HasHistory : List ℕ → State (Unit {0}) View → Type 0
HasHistory may s = (history : List Entry) × (maker : View) × HistoryStands may s.words s.views history maker
