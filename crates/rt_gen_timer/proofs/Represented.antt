-- The timer queue of an application is a heap in cells, as its section finds it: its messages stand in rows of their
-- own tasks, its first message has the least armed instant, and a handle that none of them has is of no armed message.
use Rattle.rt_gen_queue.proofs.Vocabulary.{App, Armed, Content, Entry, IsArranged, IsTimedPlace, List, MayArm, None}
use Rattle.rt_gen_queue.proofs.Vocabulary.{Some, RepresentsTimer, Task, [], all_counted, ap, arith, message_of_handle}
use Rattle.rt_gen_queue.proofs.Vocabulary.{arming_of_entry}
use Rattle.rt_gen_queue.proofs.Vocabulary.{capacities_before, armed_messages, armed_place, at, capacity_of, delays}
use Rattle.rt_gen_queue.proofs.Vocabulary.{handle_at, if◌then◌else◌, inl, inr, is_armed, is_software, least_instant}
use Rattle.rt_gen_queue.proofs.Vocabulary.{length, map, option_map, or_zero, refl, slice_get, slice_get-get_or}
use Rattle.rt_gen_queue.proofs.Vocabulary.{slice_index, subst, sym, the_task, ℕ, ◌+◌, ◌<◌, ◌^◌, ◌∙◌, ◌∷◌, ◌≡◌, ◌≢◌, ◌≤◌}
use Rattle.rt_gen_queue.proofs.Vocabulary.{◌⊎◌}
use Rattle.rt_app.proofs.ArmedPlaces.{rows, rows_before}
use Rattle.rt_gen_timer.proofs.{Handled.apart_of, Hollow.IsFirst, Hollow.IsWhole, Least.AreApart}
use Rattle.rt_gen_timer.proofs.Alone.{instant_in, number_in, timed_row}
use Rattle.rt_gen_timer.proofs.Arranged.{IsOfHandle, first_is_armed, handle_found, handle_missing, handle_of_another}
use Rattle.rt_gen_timer.proofs.Arranged.{in_queue, none_armed}
use Rattle.rt_gen_timer.specs.{TimerCode.armed_task, TimerCode.queue_of, TimerLines.heap_of}

module _ {app : App} {cells : ℕ → ℕ} {entries : List Entry} {content : Content}
    (s : RepresentsTimer app cells entries content) where
  -- a position in the heap has a place of a task that may be armed
  pub place_of : (j : ℕ) → j < length s.heap → IsTimedPlace app (at s.heap j)
  place_of j within = all_counted (IsTimedPlace app) entries (at s.heap j) s.places (in_queue s.arranged j within)

  pub row_of : (j : ℕ) → j < length s.heap → armed_place app (at s.heap j) < armed_messages app
  row_of j within = timed_row app (at s.heap j) (place_of j within)

  -- the armings are numbers of 31 bits where one more may come
  pub few_armings : MayArm content → s.timed.given + s.timed.moved < 2 ^ 31
  few_armings few = subst MayArm s.is few

  -- the count of the heap is in its cell
  pub represented_count : cells (queue_of app).at ≡ length s.heap
  represented_count = s.count ∙ sym s.arranged.long

  pub represented_column : (j : ℕ) → j < length s.heap
      → cells (heap_of (queue_of app) + j) ≡ armed_place app (at s.heap j)
  represented_column j within =
      s.column j (at s.heap j) (slice_get-get_or s.heap j (record { task = 0; place = 0 }) within)

  -- the armed messages are those of the list
  pub armed_is : delays content ≡ map (arming_of_entry app cells) entries
  armed_is = ap delays s.is ∙ s.messages

  -- no two of them have one handle
  apart : AreApart (map (arming_of_entry app cells) entries)
  apart = subst AreApart s.messages (apart_of s.timed s.handled)

  module _ (task : ℕ) {t : Task} (there : slice_get app.tasks task ≡ Some t) where
    rows_is : (armed_task app task).rows ≡ rows app task t
    rows_is = ap (λ o. if is_armed app task then or_zero (option_map (λ (t : Task). t.capacity) o) else 0) there

    -- a message whose row is one of the task's is the task's
    pub own_task : (j : ℕ) → j < length s.heap → (armed_task app task).first ≤ armed_place app (at s.heap j)
        → armed_place app (at s.heap j) < (armed_task app task).first + (armed_task app task).rows
        → (at s.heap j).task ≡ task
    own_task j within least less =
        let e : Entry = at s.heap j in
        let place = place_of j within in
        let its = the_task is_software app e.task place.1 in
        let its_rows : rows app e.task its.0 ≡ capacity_of app e.task =
        ap {B = ℕ} (λ b. if b then its.0.capacity else 0) place.0
        ∙ sym (ap (λ o. or_zero (option_map (λ (t : Task). t.capacity) o)) its.1) in
        grind (
          arith,
          rows_before app e.task task its.0 its.1,
          rows_before app task e.task t there,
          its_rows,
          rows_is,
          place.2,
        )

  -- and that of another is none of them
  abbrev IsOutside : ℕ → ℕ → Type 0
  IsOutside task row =
      (row < (armed_task app task).first) ⊎ ((armed_task app task).first + (armed_task app task).rows ≤ row)

  other_task : (task j : ℕ) → j < length s.heap → IsOutside task (armed_place app (at s.heap j))
      → (at s.heap j).task ≢ task
  other_task task j within out same =
      let e : Entry = at s.heap j in
      let place = place_of j within in
      let its_rows : (armed_task app task).rows ≡ capacity_of app task =
      ap {B = ℕ} (λ b. if b then capacity_of app task else 0) (ap (is_armed app) (sym same) ∙ place.0) in
      absurd (omega (arith, out, place.2, its_rows, ap (capacities_before app) same, ap (capacity_of app) same))

  -- What the search found is the armed message of the task that has the handle.
  pub found_of : {task : ℕ} (j wanted : ℕ) → j < length s.heap → handle_at app cells (at s.heap j) ≡ wanted
      → (at s.heap j).task ≡ task → IsOfHandle (arming_of_entry app cells) entries (at s.heap j) task wanted
  found_of j wanted within is of_task =
      subst (λ n. IsOfHandle (arming_of_entry app cells) entries (at s.heap j) n wanted) of_task
      (subst (IsOfHandle (arming_of_entry app cells) entries (at s.heap j) (at s.heap j).task) is
      (handle_found s.arranged (arming_of_entry app cells) apart j within))

  -- Where no message of the heap has the handle, or one whose row is none of the task's, no armed message of the task
  -- has it.
  pub missing_of : (task wanted : ℕ)
      → ((j : ℕ) → j < length s.heap → handle_at app cells (at s.heap j) ≢ wanted)
      ⊎ ((j : ℕ) × (j < length s.heap) × (handle_at app cells (at s.heap j) ≡ wanted)
      × IsOutside task (armed_place app (at s.heap j)))
      → message_of_handle task wanted (delays content) ≡ None
  missing_of task wanted (inl none) =
      ap (message_of_handle task wanted) armed_is ∙ handle_missing s.arranged (arming_of_entry app cells) task wanted
      none
  missing_of task wanted (inr (j, within, is, out)) =
      ap (message_of_handle task wanted) armed_is
      ∙ ap (λ handle. message_of_handle task handle (map (arming_of_entry app cells) entries)) (sym is)
      ∙ handle_of_another s.arranged (arming_of_entry app cells) apart j within task (other_task task j within out)

module _ (cells : List ℕ) {app : App} {entries : List Entry} {content : Content}
    (s : RepresentsTimer app (slice_index cells) entries content) where
  abbrev IsWholeHeap : List Entry → Type 0
  IsWholeHeap heap =
      IsWhole (queue_of app) (armed_place app) (instant_in app cells) (number_in app cells) (length s.heap) cells heap

  -- the heap stands in cells, where the armings are numbers of 32 bits
  whole_within : s.timed.given + s.timed.moved ≤ 2 ^ 32 → IsWholeHeap s.heap
  whole_within most = record {
    room = omega (arith, s.room, s.arranged.long);
    long = refl;
    column = represented_column s;
    kept = λ j within.
        let small =
        all_counted (λ e. number_in app cells e < s.timed.given + s.timed.moved) entries (at s.heap j) s.arranged.below
        (in_queue s.arranged j within) in
        record { room = row_of s j within; instants = refl; numbers = refl; small = omega (arith, most, small) };
  }

  -- so where one more may come
  pub represented_whole : MayArm content → IsWholeHeap s.heap
  represented_whole few = whole_within (omega (arith, few_armings s few))

  abbrev IsFirstOf : List Entry → Type 0
  IsFirstOf heap =
      IsFirst (queue_of app) (armed_place app) (instant_in app cells) (number_in app cells) cells
      (least_instant (delays content)) heap

  -- The first message of the heap has the least armed instant; where there is none, none is armed.
  pub first_within : s.timed.given + s.timed.moved ≤ 2 ^ 32 → IsFirstOf s.heap
  first_within most = go s.heap s.arranged (whole_within most)
    where
      read : Entry → Armed
      read = arming_of_entry app (slice_index cells)

      go : (heap : List Entry)
          → IsArranged (instant_in app cells) (number_in app cells) (s.timed.given + s.timed.moved) heap entries
          → IsWholeHeap heap → IsFirstOf heap
      go [] a whole = ap least_instant (armed_is s ∙ ap (map read) (none_armed a refl))
      go (e ∷ others) a whole =
          let none : heap_of (queue_of app) ≡ heap_of (queue_of app) + 0 = omega arith in
          let least = (first_is_armed a read (λ x. refl) most (omega arith)).instant in (
            ap (slice_index cells) none ∙ whole.column 0 (omega (arith, whole.long)),
            whole.kept 0 (omega (arith, whole.long)),
            ap least_instant (armed_is s) ∙ least,
          )
