-- The lines of a spawn that carry a note of a place: one that is taken, none left, one that is handed on.
use Rattle.rt_gen_queue.proofs.Vocabulary.{Agree, Doing, Entry, Guarded, Line, List, Message, Readies, FindsFull, Some}
use Rattle.rt_gen_queue.proofs.Vocabulary.{Places, Values, [], and_left, and_right, does, effect, is_open, length-set}
use Rattle.rt_gen_queue.proofs.Vocabulary.{line_with_note, refl, slice_index, slice_set, storage, true, with_queue, ℕ}
use Rattle.rt_gen_queue.proofs.Vocabulary.{◌++◌, ◌+◌}
use Rattle.rt_gen_queue.proofs.Vocabulary.{◌∷◌, ◌≡◌}
use Rattle.rt_ids.specs.declared.ids.Section.TheVariants as section
use Rattle.rt_code.specs.declared.instr.Instr.TheVariants as instr
use Rattle.rt_code.specs.declared.instr.Note.TheVariants as note
use Rattle.rt_gen_queue.proofs.Layer.{Frame, Here, Now, Reads, Setting, Straight, Writes, Wrote, acts_later}
use Rattle.rt_gen_queue.proofs.Layer.{behind_line, by_noted, does as asks, first_fits, in_window, is_free, is_there}
use Rattle.rt_gen_queue.proofs.Layer.{load_at_gives, set_gives, slot_free, slot_of, store_gives, window_free, word_of}
use Rattle.rt_gen_queue.proofs.Layer.{wrote}

-- the first free place of a task is to be taken, inside its section
pub record TakesPlace (h : Here) (t : ℕ) (e : Entry) (others : List Entry) (values : Values)
    (rest : Values → Doing Values) : Type 0 where
  pub opens : is_open h.held (section.Free t) ≡ true
  pub first : h.queues (Guarded (section.Free t)) ≡ e ∷ others
  pub of_task : e.task ≡ t
  pub doing : h.rest ≡ does (Places t) values (λ answer. rest)

-- a message in the hands is to become ready, inside the section of its level
pub record HandsOn (h : Here) (p t : ℕ) (m : Message) (e : Entry) (others : List Entry) (values : Values)
    (rest : Values → Doing Values) : Type 0 where
  pub opens : is_open h.held (section.Ready p) ≡ true
  pub hands : h.places ≡ e ∷ others
  pub of_task : (e.task ≡ t) × (m.task ≡ t)
  pub doing : h.rest ≡ does (Readies p m) values (λ answer. rest)

module _ {size mask : ℕ} {z : Setting} {f : Frame size mask} {lines : List Line} {h : Here} {ws : List ℕ} where
  -- the place comes into the hands, and its number into a slot
  pub takes : {d c x t : ℕ} {e : Entry} {others : List Entry} {values : Values} {rest : Values → Doing Values}
      (k value : ℕ) → slice_index ws x ≡ k → Reads z (Now f h ws) (c + k) value → TakesPlace h t e others values rest
      → ((vs : Values) → Agree (storage z.app) z.who h.held vs values
      → Straight z f lines (behind_line h (e ∷ h.places) h.cells (with_queue h.queues (section.Free t) others)
      (rest (effect (Places t) vs))) (slice_set ws d value))
      → Straight z f (line_with_note (instr.LoadAt d c x) (note.Placed t) ∷ lines) h ws
  takes {d = d} {c = c} {x = x} {t = t} {e = e} {others = others} {values = values} {rest = rest} k value shown reads
      may on =
      by_noted (λ run has.
      let free = and_left (is_free size mask d) (is_there size x) (first_fits run) in
      let from = and_right (is_free size mask d) (is_there size x) (first_fits run) in
      asks (Some (note.Placed t))
      (in_window d value run free
      (load_at_gives k value (slot_free d run free) (slot_of x run from) (window_free f h.held d free run.saves)
      (word_of x k run from shown) reads))
      (record {
        entry = e;
        others = others;
        inside = may.opens;
        first = may.first;
        of_task = may.of_task;
        acts = acts_later (Places t) (slice_set ws d value) (length-set ws d value) run has may.doing on;
      }))

  -- no place is left
  pub refuses : {d v t : ℕ} {values : Values} {rest : Values → Doing Values} → is_open h.held (section.Free t) ≡ true
      → h.rest ≡ does (FindsFull t) values (λ answer. rest)
      → ((vs : Values) → Agree (storage z.app) z.who h.held vs values
      → Straight z f lines (behind_line h h.places h.cells h.queues (rest vs)) (slice_set ws d v))
      → Straight z f (line_with_note (instr.Set d v) (note.Full t) ∷ lines) h ws
  refuses {d = d} {v = v} {t = t} {values = values} {rest = rest} opens doing on =
      by_noted (λ run has.
      let free = first_fits run in
      asks (Some (note.Full t))
      (in_window d v run free (set_gives (slot_free d run free) (window_free f h.held d free run.saves)))
      (record { inside = opens; acts = acts_later (FindsFull t) _ (length-set ws d v) run has doing on }))

  -- the message is handed on, and how many are ready is stored
  pub hands_on : {c x p t : ℕ} {m : Message} {e : Entry} {others : List Entry} {values : Values}
      {rest : Values → Doing Values} (value : ℕ) → slice_index ws x ≡ value → Writes z (Now f h ws) c
      → HandsOn h p t m e others values rest
      → ((left : List ℕ) (vs : Values) → Wrote c value h.cells left → Agree (storage z.app) z.who h.held vs values
      → Straight z f lines (behind_line h others left
      (with_queue h.queues (section.Ready p) (h.queues (Guarded (section.Ready p)) ++ e ∷ []))
      (rest (effect (Readies p m) vs))) ws)
      → Straight z f (line_with_note (instr.Store c x) (note.Ready t) ∷ lines) h ws
  hands_on {c = c} {x = x} {p = p} {t = t} {m = m} {e = e} {others = others} {values = values} {rest = rest} value is
      writes may on =
      by_noted (λ run has.
      let from = first_fits run in
      asks (Some (note.Ready t)) (store_gives value (slot_of x run from) (word_of x value run from is) writes)
      (record {
        level = p;
        message = m;
        entry = e;
        others = others;
        inside = may.opens;
        in_hands = may.hands;
        of_task = may.of_task;
        acts = acts_later (Readies p m) ws refl run has may.doing
            (λ vs. on (slice_set h.cells c value) vs (wrote c value h.cells writes.there));
      }))
