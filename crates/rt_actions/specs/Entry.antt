-- Which messages are in which queue, as places: a place of a software task holds one message of it at most. Free
-- places, ready messages and armed messages are lists of entries, which move from one list to another and are never
-- copied.
use Rattle.std.specs.Prelude.{ℕ, ◌==◌, ◌&&◌, Bool, List, count_by}

-- a place of a software task in a queue: a slot of the task's message pool
pub record Entry : Type 0 where
  pub task : ℕ
  -- from 0 to its task's capacity
  pub place : ℕ

-- whether two entries are one place of one task
abbrev pub is_same_entry : Entry → Entry → Bool
is_same_entry a b = (a.task == b.task) && (a.place == b.place)

-- how often an entry is in a list
abbrev pub count : Entry → List Entry → ℕ
count e es = count_by (is_same_entry e) es
