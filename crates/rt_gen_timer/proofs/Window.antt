-- The 24 slots of the code for the timer queue as named words. The mask is kept in the tenth.
use Rattle.rt_gen_queue.proofs.Vocabulary.{List, [], length, slice_index, ℕ, ◌+◌, ◌∷◌, ◌≡◌, ◌≤◌}
use Rattle.rt_gen_queue.proofs.{Layer.Frame, Layer.frame_at, Layer.framed, Layer.window, Numbers.steps_and}

abbrev pub Slots : Type 0
Slots = Frame 24 9

-- what is in the 24 slots
pub record Words : Type 0 where
  pub answer : ℕ
  pub first : ℕ
  pub second : ℕ
  pub third : ℕ
  pub hand : ℕ
  pub count : ℕ
  pub hole : ℕ
  pub place : ℕ
  pub work : ℕ
  pub mask : ℕ
  pub instant : ℕ
  pub arming : ℕ
  pub one : ℕ
  pub other : ℕ
  pub right : ℕ
  pub row : ℕ
  pub row_instant : ℕ
  pub row_arming : ℕ
  pub right_row : ℕ
  pub right_instant : ℕ
  pub right_arming : ℕ
  pub less : ℕ
  pub equal : ℕ
  pub two : ℕ

-- the same as a list
abbrev pub words : Words → List ℕ
words w =
    w.answer ∷ w.first ∷ w.second ∷ w.third ∷ w.hand ∷ w.count ∷ w.hole ∷ w.place ∷ w.work ∷ w.mask ∷ w.instant
    ∷ w.arming ∷ w.one ∷ w.other ∷ w.right ∷ w.row ∷ w.row_instant ∷ w.row_arming ∷ w.right_row ∷ w.right_instant
    ∷ w.right_arming ∷ w.less ∷ w.equal ∷ w.two ∷ []

-- What is in the slots that the loops work in: words, of which the others are not looked at.
abbrev pub Scratch : Type 0
Scratch = Words

-- what a window has in them
abbrev pub scratch_of : Words → Scratch
scratch_of w = w

-- In a loop: the hole is at a position, and a message with an instant and a number is in hand. All other slots but
-- those that the loops work in stay.
abbrev pub turning : Words → Scratch → ℕ → ℕ → ℕ → Words
turning w s position instant arming = record s {
  answer = w.answer;
  first = w.first;
  second = w.second;
  third = w.third;
  hand = w.hand;
  count = w.count;
  hole = position;
  place = w.place;
  mask = w.mask;
  instant = instant;
  arming = arming;
  one = 1;
  two = 2;
}

-- the words from a slot on
abbrev pub words_of : ℕ → List ℕ → Words
words_of slot slots = record {
  answer = slice_index slots slot;
  first = slice_index slots (steps_and 1 slot);
  second = slice_index slots (steps_and 2 slot);
  third = slice_index slots (steps_and 3 slot);
  hand = slice_index slots (steps_and 4 slot);
  count = slice_index slots (steps_and 5 slot);
  hole = slice_index slots (steps_and 6 slot);
  place = slice_index slots (steps_and 7 slot);
  work = slice_index slots (steps_and 8 slot);
  mask = slice_index slots (steps_and 9 slot);
  instant = slice_index slots (steps_and 10 slot);
  arming = slice_index slots (steps_and 11 slot);
  one = slice_index slots (steps_and 12 slot);
  other = slice_index slots (steps_and 13 slot);
  right = slice_index slots (steps_and 14 slot);
  row = slice_index slots (steps_and 15 slot);
  row_instant = slice_index slots (steps_and 16 slot);
  row_arming = slice_index slots (steps_and 17 slot);
  right_row = slice_index slots (steps_and 18 slot);
  right_instant = slice_index slots (steps_and 19 slot);
  right_arming = slice_index slots (steps_and 20 slot);
  less = slice_index slots (steps_and 21 slot);
  equal = slice_index slots (steps_and 22 slot);
  two = slice_index slots (steps_and 23 slot);
}

-- what is before and after them
abbrev pub frame_of : (slot : ℕ) (slots : List ℕ) → slot + 24 ≤ length slots → Slots
frame_of slot slots long = frame_at 24 9 slots slot long

-- a list that is long enough is a window from a slot on
pub window_of : (slot : ℕ) (slots : List ℕ) (long : slot + 24 ≤ length slots)
    → slots ≡ window (frame_of slot slots long) (words (words_of slot slots))
window_of slot slots long = framed 24 9 slots slot long
