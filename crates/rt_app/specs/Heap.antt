-- A binary heap of messages (Williams, Algorithm 232: Heapsort, 1964): a list in which no message has a greater key
-- than those below it, so that the first has the least. The key is the instant, and of equal instants the number of the
-- last arming, so that they fire in the order in which they were armed. The code keeps the heap in cells and moves one
-- message at a time; here it is a whole list beside the list in order of arming.
use Rattle.std.specs.Prelude.{◌≡◌, ℕ, ◌+◌, ◌-◌, ◌*◌, ◌/◌, ◌^◌, ◌<◌, ◌≤◌, List, length, slice_get, slice_index_or, Some}
use Rattle.std.specs.List.{AllByRecursion}
use Rattle.rt_actions.specs.Entry.{Entry, count}

-- the parent of an index in the heap: the children of i are 2 * i + 1 and 2 * i + 2
abbrev pub above : ℕ → ℕ
above i = (i - 1) / 2

-- a binary heap of so many indices: at each but the first the key is no less than that of its parent
abbrev pub IsHeap : ℕ → (ℕ → ℕ) → Type 0
IsHeap n key = (j : ℕ) → 0 < j → j < n → key (above j) ≤ key j

-- the message at an index of the heap
abbrev pub at : List Entry → ℕ → Entry
at heap i = slice_index_or heap i (record { task = 0; place = 0 })

-- the keys of a heap by index, from the key of a message
abbrev pub keys : (Entry → ℕ) → List Entry → ℕ → ℕ
keys key heap i = key (at heap i)

-- The key of a message, where armings are numbered below 2^32: the instant counts first.
abbrev pub key_of : (Entry → ℕ) → (Entry → ℕ) → Entry → ℕ
key_of instant arming e = instant e * 2 ^ 32 + arming e

-- later messages have later armings
abbrev pub IsRising : (Entry → ℕ) → List Entry → Type 0
IsRising arming entries =
    (i j : ℕ) (a b : Entry) → slice_get entries i ≡ Some a → slice_get entries j ≡ Some b → i < j
    → arming a < arming b

-- The heap holds just the armed messages, which are listed in order of their last arming; there were so many armings.
pub record IsArranged (instant arming : Entry → ℕ) (armings : ℕ) (heap entries : List Entry) : Type 0 where
  pub alike : (e : Entry) → count e heap ≡ count e entries
  pub long : length heap ≡ length entries
  pub order : IsHeap (length heap) (keys (key_of instant arming) heap)
  pub rising : IsRising arming entries
  pub below : AllByRecursion (λ e. arming e < armings) entries
