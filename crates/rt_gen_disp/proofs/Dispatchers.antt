-- A dispatcher of an accepted application, and where it is while its code runs.
use Rattle.rt_gen_queue.proofs.Vocabulary.{App, AtPriority, BodyRow, Contains, Doing, Entry, Guarded, OpenSection}
use Rattle.rt_gen_queue.proofs.Vocabulary.{Location}
use Rattle.rt_gen_queue.proofs.Vocabulary.{IsAccepted, Line, List, None, Section, Some, Task, Values, [], is_of_level}
use Rattle.rt_gen_queue.proofs.Vocabulary.{levels, row_for, rows_for, slice_get, slice_index, storage, true, ℕ, ◌∷◌}
use Rattle.rt_gen_queue.proofs.Vocabulary.{◌≡◌}
use Rattle.rt_gen_queue.{proofs.Entering.opened, proofs.Layer.Here, proofs.Layer.Setting, specs.Called.CalledBodyStands}
use Rattle.rt_gen_disp.proofs.Words.{own}

-- the dispatcher of a level, as code beside the bodies of the level's tasks
pub record Dispatcher : Type 0 where
  pub app : App
  pub accepted : IsAccepted app
  pub level : ℕ
  pub is : Contains (levels app) level
  pub code : List Line
  pub entry : ℕ → ℕ
  pub bodies : (n : ℕ) (t : Task) → slice_get app.tasks n ≡ Some t → is_of_level level t ≡ true
      → CalledBodyStands app n code (row_for entry n t)
  pub thread : ℕ

abbrev pub rows : Dispatcher → List BodyRow
rows d = rows_for d.entry 0 d.app.tasks

-- its code runs in a frame of its own
abbrev pub job : Dispatcher → Setting
job d = record {
  app = d.app;
  code = d.code;
  bodies = rows d;
  thread = d.thread;
  who = AtPriority d.level;
  caller =
      None;
}

-- a section, open alone
abbrev pub alone : Dispatcher → Section → List OpenSection
alone d x = opened (job d) own x d.level ∷ []

-- what changes while it runs, beside its frame, whose words are told apart, and what it has left to do
pub record Moment : Type 0 where
  pub done : ℕ
  pub until : ℕ
  pub at : ℕ
  pub cells : List ℕ
  pub queues : Location → List Entry

-- where it is with no section open, and with these places in its hands
abbrev pub outside : Moment → List Entry → Doing Values → Here
outside m hands rest = record {
  held = [];
  done = m.done;
  until = m.until;
  deadlines = m.until ∷ [];
  places = hands;
  slots = [];
  at = m.at;
  cells = m.cells;
  queues = m.queues;
  rest = rest;
}

-- and with one section open, which it is to leave by a deadline
abbrev pub within : Dispatcher → Section → ℕ → Moment → List Entry → Doing Values → Here
within d x deadline m hands rest =
    record (outside m hands rest) { held = alone d x; deadlines = deadline ∷ m.until ∷ [] }

-- what a section guards is represented by these cells
abbrev pub Represented : Dispatcher → Section → List ℕ → (Location → List Entry) → Values → Type 0
Represented d x cells queues vs =
    (storage d.app).Represents (Guarded x) (slice_index cells) (queues (Guarded x)) (vs (Guarded x))
