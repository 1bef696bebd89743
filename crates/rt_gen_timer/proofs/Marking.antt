-- The notes of the timer queue's code: a message is armed, goes last for another instant, or comes out of the queue
-- into the hands, for a cancel or because it fires.
use Rattle.rt_gen_queue.proofs.Vocabulary.{Agree, Arms, Cancels, Doing, Entry, Fires, Guarded, Line, List, Message}
use Rattle.rt_gen_queue.proofs.Vocabulary.{Moves, Some, Values, [], does, effect, is_open, line_with_note, refl}
use Rattle.rt_gen_queue.proofs.Vocabulary.{slice_get}
use Rattle.rt_gen_queue.proofs.Vocabulary.{slice_index, slice_set, storage, true, with_queue, ℕ, ◌++◌, ◌+◌, ◌∷◌, ◌≡◌}
use Rattle.rt_ids.specs.declared.ids.Section.TheVariants as section
use Rattle.rt_code.specs.declared.instr.Instr.TheVariants as instr
use Rattle.rt_code.specs.declared.instr.Note.TheVariants as note
use Rattle.rt_gen_queue.proofs.Layer.{Here, MayRun, Now, Setting, Straight, Writes, Wrote, acts_later, behind_line}
use Rattle.rt_gen_queue.proofs.Layer.{by_noted, does as asks, is_there, mark_gives, shows, slot_of, store_at_gives}
use Rattle.rt_gen_queue.proofs.Layer.{window, word_of, wrote}
use Rattle.rt_gen_timer.proofs.Window.{Slots, Words, words}
use Rattle.rt_gen_timer.specs.{TimerLines.heap_of, declared.queue.TimerQueue.TimerQueue}

-- a message of a task is in the queue, between these, with its section open
pub record IsQueued (h : Here) (task : ℕ) (e : Entry) (before behind : List Entry) : Type 0 where
  pub opens : is_open h.held section.Timer ≡ true
  pub stands : h.queues (Guarded section.Timer) ≡ before ++ e ∷ behind
  pub of_task : e.task ≡ task

-- one is in the hands
pub record IsInHands (h : Here) (task : ℕ) (e : Entry) (others : List Entry) (m : Message) : Type 0 where
  pub opens : is_open h.held section.Timer ≡ true
  pub hands : h.places ≡ e ∷ others
  pub of_task : (e.task ≡ task) × (m.task ≡ task)

-- what a slot shows where a run is
word_shown : {f : Slots} {line : Line} {lines : List Line} {h : Here} {ws : List ℕ} (x v : ℕ)
    → MayRun f (line ∷ lines) h ws → is_there 24 x ≡ true → slice_index ws x ≡ v
    → slice_get (window f ws) (f.slot + x) ≡ Some v
word_shown {f = f} {ws = ws} x v run there is =
    shows (window f ws) (f.slot + x) v (slot_of x run there) (word_of x v run there is)

-- after a line that changes the queue to these messages
abbrev pub queued : Here → List Entry → List ℕ → List Entry → Doing Values → Here
queued h places cells entries rest = behind_line h places cells (with_queue h.queues section.Timer entries) rest

module _ {z : Setting} {f : Slots} {lines : List Line} {h : Here} {values : Values} {rest : Values → Doing Values} where
  -- the message in the hands is armed for the instant in its slot: its row in the hand is stored at the hole
  pub arms : (q : TimerQueue) {task : ℕ} {e : Entry} {others : List Entry} {m : Message} (w : Words)
      → Writes z (Now f h (words w)) (heap_of q + w.hole) → IsInHands h task e others m
      → h.rest ≡ does (Arms w.instant m) values (λ answer. rest)
      → ((left : List ℕ) (vs : Values) → Wrote (heap_of q + w.hole) w.hand h.cells left
      → Agree (storage z.app) z.who h.held vs values
      → Straight z f lines (queued h others left (h.queues (Guarded section.Timer) ++ e ∷ [])
      (rest (effect (Arms w.instant m) vs))) (words w))
      → Straight z f (line_with_note (instr.StoreAt (heap_of q) 6 4) (note.Arm task 10) ∷ lines) h (words w)
  arms q {task = task} {e = e} {others = others} {m = m} w writes may doing on =
      by_noted (λ run has.
      asks (Some (note.Arm task (f.slot + 10)))
      (store_at_gives w.hole w.hand (slot_of 6 run refl) (slot_of 4 run refl) (word_of 6 w.hole run refl refl)
      (word_of 4 w.hand run refl refl) writes)
      (record {
        instant = w.instant;
        message = m;
        entry = e;
        others = others;
        inside = may.opens;
        in_hands = may.hands;
        of_task = may.of_task;
        shown = word_shown 10 w.instant run refl refl;
        acts = acts_later (Arms w.instant m) (words w) refl run has doing
            (λ vs. on (slice_set h.cells (heap_of q + w.hole) w.hand) vs
            (wrote (heap_of q + w.hole) w.hand h.cells writes.there));
      }))

  -- the message of the handle in a slot goes last, for the instant in its slot
  pub moves : (q : TimerQueue) {task handle : ℕ} {e : Entry} {before behind : List Entry} (w : Words)
      → w.first ≡ handle → Writes z (Now f h (words w)) (heap_of q + w.hole) → IsQueued h task e before behind
      → h.rest ≡ does (Moves task handle w.instant) values (λ answer. rest)
      → ((left : List ℕ) (vs : Values) → Wrote (heap_of q + w.hole) w.hand h.cells left
      → Agree (storage z.app) z.who h.held vs values
      → Straight z f lines (queued h h.places left (before ++ (behind ++ e ∷ []))
      (rest (effect (Moves task handle w.instant) vs))) (words w))
      → Straight z f (line_with_note (instr.StoreAt (heap_of q) 6 4) (note.Move task 1 10) ∷ lines) h (words w)
  moves q {task = task} {handle = handle} {e = e} {before = before} {behind = behind} w shown writes may doing on =
      by_noted (λ run has.
      asks (Some (note.Move task (f.slot + 1) (f.slot + 10)))
      (store_at_gives w.hole w.hand (slot_of 6 run refl) (slot_of 4 run refl) (word_of 6 w.hole run refl refl)
      (word_of 4 w.hand run refl refl) writes)
      (record {
        handle = handle;
        instant = w.instant;
        entry = e;
        before = before;
        behind = behind;
        inside = may.opens;
        stands = may.stands;
        of_task = may.of_task;
        shown = word_shown 1 handle run refl shown;
        put_off = word_shown 10 w.instant run refl refl;
        acts = acts_later (Moves task handle w.instant) (words w) refl run has doing
            (λ vs. on (slice_set h.cells (heap_of q + w.hole) w.hand) vs
            (wrote (heap_of q + w.hole) w.hand h.cells writes.there));
      }))

  module _ {task : ℕ} {e : Entry} {before behind : List Entry} {ws : List ℕ} where
    -- the message whose handle is in the first slot comes into the hands
    pub cancels : {handle : ℕ} → slice_index ws 0 ≡ handle → IsQueued h task e before behind
        → h.rest ≡ does (Cancels task handle) values (λ answer. rest)
        → ((vs : Values) → Agree (storage z.app) z.who h.held vs values
        → Straight z f lines (queued h (e ∷ h.places) h.cells (before ++ behind)
        (rest (effect (Cancels task handle) vs))) ws)
        → Straight z f (line_with_note instr.Mark (note.Cancel task 0) ∷ lines) h ws
    cancels {handle = handle} shown may doing on =
        by_noted (λ run has.
        asks (Some (note.Cancel task (f.slot + 0))) mark_gives
        (record {
          handle = handle;
          entry = e;
          before = before;
          behind = behind;
          inside = may.opens;
          stands = may.stands;
          of_task = may.of_task;
          shown = word_shown 0 handle run refl shown;
          acts = acts_later (Cancels task handle) ws refl run has doing on;
        }))

    -- so does one that fires
    pub fires : {m : Message} → IsQueued h task e before behind → m.task ≡ task
        → h.rest ≡ does (Fires m) values (λ answer. rest)
        → ((vs : Values) → Agree (storage z.app) z.who h.held vs values
        → Straight z f lines (queued h (e ∷ h.places) h.cells (before ++ behind) (rest (effect (Fires m) vs))) ws)
        → Straight z f (line_with_note instr.Mark (note.Fire task) ∷ lines) h ws
    fires {m = m} may of_task doing on =
        by_noted (λ run has.
        asks (Some (note.Fire task)) mark_gives
        (record {
          message = m;
          entry = e;
          before = before;
          behind = behind;
          inside = may.opens;
          stands = may.stands;
          of_task = (may.of_task, of_task);
          acts = acts_later (Fires m) ws refl run has doing on;
        }))
