-- A place of a task goes back among those that are free: the line that does so, and what the cells represent after it.
use Rattle.rt_gen_queue.proofs.Vocabulary.{Agree, AllByRecursion, App, At, Content, Doing, Entry, Frees, Guarded, Line}
use Rattle.rt_gen_queue.proofs.Vocabulary.{List, Number, Some, RepresentsFree, Task, Values, [], ap, arith, capacity_is}
use Rattle.rt_gen_queue.proofs.Vocabulary.{capacity_of, count, count_more, does, effect, free_at, free_is_home, home_of}
use Rattle.rt_gen_queue.proofs.Vocabulary.{is_open, length, memory, line_with_note, number, refl, same_Some, slice_get}
use Rattle.rt_gen_queue.proofs.Vocabulary.{slice_get_within, slice_index, slice_set, storage, subst, suc, true}
use Rattle.rt_gen_queue.proofs.Vocabulary.{with_queue, zero, ℕ, ◌+◌, ◌-◌, ◌<◌, ◌∙◌, ◌∷◌, ◌≡◌, ◌≢◌, ◌≤◌}
use Rattle.rt_ids.specs.declared.ids.Section.TheVariants as section
use Rattle.rt_code.specs.declared.instr.Instr.TheVariants as instr
use Rattle.rt_code.specs.declared.instr.Note.TheVariants as note
use Rattle.rt_gen_queue.proofs.{Facts.Spawned, Layer.Correct.does as asks, Places.entry_at, Places.places_few}
use Rattle.rt_gen_queue.proofs.Layer.{Frame, Here, Now, Setting, Straight, Writes, Wrote, acts_later, behind_line}
use Rattle.rt_gen_queue.proofs.Layer.{by_noted, first_fits, slot_of, store_gives, word_of, wrote}

-- the place in the hands is to be free again, inside its task's section
pub record GivesUp (h : Here) (t : ℕ) (e : Entry) (others : List Entry) (values : Values)
    (rest : Values → Doing Values) : Type 0 where
  pub opens : is_open h.held (section.Free t) ≡ true
  pub hands : h.places ≡ e ∷ others
  pub of_task : e.task ≡ t
  pub doing : h.rest ≡ does (Frees t) values (λ answer. rest)

module _ {size mask : ℕ} {z : Setting} {f : Frame size mask} {lines : List Line} {h : Here} {ws : List ℕ} where
  -- it is free, and how many are free is stored
  pub frees : {c x t : ℕ} {e : Entry} {others : List Entry} {values : Values} {rest : Values → Doing Values} (value : ℕ)
      → slice_index ws x ≡ value → Writes z (Now f h ws) c → GivesUp h t e others values rest
      → ((left : List ℕ) (vs : Values) → Wrote c value h.cells left → Agree (storage z.app) z.who h.held vs values
      → Straight z f lines (behind_line h others left
      (with_queue h.queues (section.Free t) (e ∷ h.queues (Guarded (section.Free t)))) (rest (effect (Frees t) vs))) ws)
      → Straight z f (line_with_note (instr.Store c x) (note.Free t) ∷ lines) h ws
  frees {c = c} {x = x} {t = t} {e = e} {others = others} {values = values} {rest = rest} value is writes gives on =
      by_noted (λ run has.
      let from = first_fits run in
      asks (Some (note.Free t)) (store_gives value (slot_of x run from) (word_of x value run from is) writes)
      (record {
        entry = e;
        others = others;
        inside = gives.opens;
        in_hands = gives.hands;
        of_task = gives.of_task;
        acts = acts_later (Frees t) ws refl run has gives.doing
            (λ vs. on (slice_set h.cells c value) vs (wrote c value h.cells writes.there));
      }))

-- a place of a task comes back among those that are free
pub record Returned (app : App) (n : ℕ) (t : Task) (cells : List ℕ) (entries : List Entry) (place : ℕ) : Type 0 where
  pub task : Spawned app n t
  pub long : length cells ≡ length (memory app)
  pub content : Content
  pub represents : RepresentsFree app (slice_index cells) n entries content
  pub less : place < t.capacity
  pub once : (x : Entry) → count x (entry_at n place ∷ []) + count x entries ≤ 1

-- what is so after two stores
pub record IsGiven (app : App) (n : ℕ) (cells given : List ℕ) (entries : List Entry) (content : Content) : Type 0 where
  pub long : length given ≡ length cells
  pub elsewhere : (c : ℕ) → ¬ (home_of app c ≡ At (Guarded (section.Free n)))
      → slice_index given c ≡ slice_index cells c
  pub represents : RepresentsFree app (slice_index given) n entries (Number (number content - 1))

module _ {app : App} {n : ℕ} {t : Task} {cells : List ℕ} {entries : List Entry} {place : ℕ}
    (known : Returned app n t cells entries place) where
  capacity : capacity_of app n ≡ t.capacity
  capacity = capacity_is app n t known.task.at

  pub free_home : (c j : ℕ) → c ≡ free_at app n + j → j ≤ t.capacity → home_of app c ≡ At (Guarded (section.Free n))
  free_home c j is few = ap (home_of app) is ∙ free_is_home app n t known.task.at known.task.software j few

  -- since the place is among no others, there is room for it
  pub room_left : suc (length entries) ≤ t.capacity
  room_left =
      places_few n t.capacity (entry_at n place ∷ entries) (
        (refl, known.less),
        subst (λ (c : ℕ). AllByRecursion (λ e. (e.task ≡ n) × (e.place < c)) entries) capacity known.represents.places,
      )
      (λ x. omega (arith, known.once x, count_more x (entry_at n place) entries, count_more x (entry_at n place) []))

  pub given_back : (placed given : List ℕ) → Wrote (free_at app n + 1 + length entries) place cells placed
      → Wrote (free_at app n) (suc (length entries)) placed given
      → IsGiven app n cells given (entry_at n place ∷ entries) known.content
  given_back placed given first second = record {
    long = second.long ∙ first.long;
    elsewhere = λ c differ.
        other c (λ same. differ (free_home c 0 (omega (arith, same)) (omega arith)))
        (λ same. differ (free_home c (suc (length entries)) (omega (arith, same)) room_left));
    represents = record {
      out = ap Number out_is;
      room = omega (arith, room_left, capacity);
      places = ((refl, omega (arith, capacity, known.less)), known.represents.places);
      count = second.here;
      stack = stack;
    };
  }
    where
      other : (c : ℕ) → c ≢ free_at app n → c ≢ free_at app n + 1 + length entries
          → slice_index given c ≡ slice_index cells c
      other c no_count no_place = second.others c no_count ∙ first.others c no_place

      out_is : number known.content - 1 ≡ capacity_of app n - length (entry_at n place ∷ entries)
      out_is =
          let was : number known.content ≡ capacity_of app n - length entries = ap number known.represents.out in
          omega (arith, was)

      stack : (i : ℕ) (e : Entry) → slice_get (entry_at n place ∷ entries) i ≡ Some e
          → slice_index given (free_at app n + (suc (length entries) - i)) ≡ e.place
      stack zero e is =
          let d : free_at app n + (suc (length entries) - 0) ≡ free_at app n + 1 + length entries = omega arith in
          ap (slice_index given) d ∙ second.others (free_at app n + 1 + length entries) (omega arith) ∙ first.here
          ∙ ap (λ (e : Entry). e.place) (same_Some (entry_at n place) e is)
      stack (suc i) e is =
          let within : i < length entries = slice_get_within entries i e is in
          let d : free_at app n + (suc (length entries) - suc i) ≡ free_at app n + (length entries - i) = omega arith in
          ap (slice_index given) d ∙ other (free_at app n + (length entries - i)) (omega arith) (omega arith)
          ∙ known.represents.stack i e is
