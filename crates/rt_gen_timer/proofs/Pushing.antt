-- What the cells of the timer queue represent once a message more is armed: it comes last, with the next number and the
-- next handle, and the others are as before.
use Rattle.rt_gen_queue.proofs.Vocabulary.{AllByRecursion, App, Bool, Content, Delays, Entry, IsAccepted, IsArranged}
use Rattle.rt_gen_queue.proofs.Vocabulary.{IsSome, IsTimedPlace, List, MayArm, Message, RepresentsTimer, Task, Timed}
use Rattle.rt_gen_queue.proofs.Vocabulary.{[]}
use Rattle.rt_gen_queue.proofs.Vocabulary.{all_counted, ap, arith, armed_messages, armed_place, at, capacity_is, count}
use Rattle.rt_gen_queue.proofs.Vocabulary.{count_more, false, few_messages, get_or_append_left, heap_at, if◌then◌else◌}
use Rattle.rt_gen_queue.proofs.Vocabulary.{is_armed, is_software, key_of, length, length-append, length_push, many, map}
use Rattle.rt_gen_queue.proofs.Vocabulary.{message_at, one, one_itself, refl, set-append_seam, slice_index, subst}
use Rattle.rt_gen_queue.proofs.Vocabulary.{sum_by-append, sym, the_task, true, with_armed, ℕ, ◌++◌, ◌+◌, ◌<◌, ◌∙◌, ◌∷◌}
use Rattle.rt_gen_queue.proofs.Vocabulary.{◌≡◌, ◌≢◌, ◌≤◌}
use Rattle.rt_app.specs.Level.{armed_capacities}
use Rattle.rt_gen_queue.proofs.Places.{fits_once, places_from, places_of, stands_in}
use Rattle.rt_gen_timer.proofs.{Alike.all_from_counted, Handled.handled_more, Hollow.IsBeside, Hollow.IsHollow}
use Rattle.rt_gen_timer.proofs.{Moves.HasHole, Moves.HasSettled, Rowing.HasCounts, Rowing.HasRow}
use Rattle.rt_gen_timer.proofs.Alone.{armed_in, instant_in, number_in}
use Rattle.rt_gen_timer.proofs.Arranged.{goes_last, in_queue, listed, push_begins}
use Rattle.rt_gen_timer.proofs.Lasting.{AreOthers, IsRow, hollow_last, same_instants, same_numbers, represents_last}
use Rattle.rt_gen_timer.proofs.Represented.{few_armings, represented_count, represented_whole}
use Rattle.rt_gen_timer.specs.TimerCode.{queue_of}

module _ (app : App) where
  -- there are as many rows as places of tasks whose messages may be armed
  rows_long : (n : ℕ) (ts : List Task) → length (places_from (λ k t. is_armed app k) n ts) ≡ armed_capacities app n ts
  rows_long n [] = refl
  rows_long n (t ∷ ts) = go (is_armed app n) (rows_long (n + 1) ts)
    where
      go : (b : Bool) → length (places_from (λ k t. is_armed app k) (n + 1) ts) ≡ armed_capacities app (n + 1) ts
          → length ((if b then places_of n t.capacity else []) ++ places_from (λ k t. is_armed app k) (n + 1) ts)
          ≡ (if b then t.capacity else 0) + armed_capacities app (n + 1) ts
      go true rest =
          omega (
            arith,
            length-append (places_of n t.capacity) (places_from (λ k t. is_armed app k) (n + 1) ts),
            many {X = Entry} (λ k. record { task = n; place = k }) t.capacity,
            rest,
          )
      go false rest = omega (arith, rest)

  -- among different ones one more has room
  pub timer_room : (entries : List Entry) (e : Entry) → AllByRecursion (IsTimedPlace app) entries → IsTimedPlace app e
      → ((y : Entry) → count y (e ∷ entries) ≤ 1) → length entries < armed_messages app
  timer_room entries e all is once =
      let places : List Entry = places_from (λ k t. is_armed app k) 0 app.tasks in
      let found : (y : Entry) → 0 < count y (e ∷ entries) → 0 < count y places =
      (λ y some.
      let place : IsTimedPlace app y = all_counted (IsTimedPlace app) (e ∷ entries) y (is, all) some in
      let task = the_task is_software app y.task place.1 in
      let capacity = capacity_is app y.task task.0 task.1 in
      let number : 0 + y.task ≡ y.task = omega arith in
      stands_in (λ k t. is_armed app k) 0 app.tasks y.task y task.1 (ap (is_armed app) number ∙ place.0)
      (omega arith, omega (arith, place.2, capacity))) in
      omega (arith, fits_once (e ∷ entries) places once found, rows_long 0 app.tasks)

-- A message may be armed: its place is of a task whose messages may be, it is not armed yet, and its arguments are in
-- the cells of its place.
pub record MayPush (app : App) (entries : List Entry) (e : Entry) (content : Content) (m : Message) (before : List ℕ)
    : Type 0 where
  pub accepted : IsAccepted app
  pub mono : IsSome app.mono
  pub represents : RepresentsTimer app (slice_index before) entries content
  pub few : MayArm content
  pub place : IsTimedPlace app e
  pub once : (y : Entry) → count y (e ∷ entries) ≤ 1
  pub message : message_at app (slice_index before) e ≡ m

module _ {app : App} {entries : List Entry} {e : Entry} {content : Content} {m : Message} {before : List ℕ}
    (may : MayPush app entries e content m before) where
  abbrev pub timed : Timed
  timed = may.represents.timed

  abbrev pub armings_before : ℕ
  armings_before = timed.given + timed.moved

  -- how many are armed
  abbrev pub size : ℕ
  size = length may.represents.heap

  pub room : size < armed_messages app
  room =
      omega (arith, timer_room app entries e may.represents.places may.place may.once, may.represents.arranged.long)

  pub counts : HasCounts (queue_of app) armings_before timed.given size before
  counts =
      let small = few_armings may.represents may.few in
      record {
        armings = may.represents.armings;
        given = may.represents.given;
        count = represented_count may.represents;
        small = (omega (arith, small), omega (arith, small), omega (arith, room, few_messages app may.accepted));
      }

  -- the others, and the message last
  pub are : AreOthers app entries e
  are = record {
    places = may.represents.places;
    place = may.place;
    differ = all_from_counted (λ x. x ≢ e) entries
        (λ x some same.
        absurd (omega (arith, some, ap (λ y. count y entries) same, may.once e, count_more e e entries, one_itself e)));
  }

  -- the heap with one position more, whose message is in hand
  abbrev pub longer : List Entry
  longer = may.represents.heap ++ e ∷ []

  module _ {instant : ℕ} {mid : List ℕ}
      (has : HasRow (queue_of app) (armed_place app e) instant armings_before timed.given size before mid) where
    pub is_row : IsRow (queue_of app) (armed_place app e) instant armings_before (timed.given + 1) before mid
    is_row = record { instants = has.instants; numbers = has.numbers; handles = has.handles; others = has.others }

    -- where the loop begins
    pub hole_begins : HasHole (size + 1) (key_of (instant_in app mid) (number_in app mid)) longer size
    hole_begins = push_begins may.represents.arranged e (same_instants are is_row) (same_numbers are is_row)

    pub hollow_begins : IsHollow (queue_of app) (armed_place app) (instant_in app mid) (number_in app mid) (size + 1)
        mid longer size
    hollow_begins =
        hollow_last are is_row (represented_whole before may.represents may.few)
        (omega (arith, room), length_push may.represents.heap e, omega arith)
        (λ j less apart.
        let within : j < size = omega (arith, apart) in (
          within,
          sym (get_or_append_left may.represents.heap (e ∷ []) (record { task = 0; place = 0 }) j within),
          in_queue may.represents.arranged j within,
        ))

    -- The rows of the heap are in its column, and nothing else is written: that is what the cells represent then.
    pub represented_more : {after : List ℕ} {next : List Entry} → IsBeside (queue_of app) mid after
        → ((j : ℕ) → j < size + 1 → slice_index after (heap_at app + j) ≡ armed_place app (at next j))
        → HasSettled (size + 1) (key_of (instant_in app mid) (number_in app mid)) e longer size next
        → RepresentsTimer app (slice_index after) (entries ++ e ∷ []) (Delays (with_armed instant m timed))
    represented_more {next = next} beside column settled =
        let long : armings_before + 1 ≡ timed.given + 1 + timed.moved = omega arith in
        represents_last are is_row beside may.mono
        (record {
          messages = ap (λ list. list ++ record { instant = instant; message = m; handle = timed.given + 1 } ∷ [])
              may.represents.messages
              ∙ ap (λ w. map (armed_in app before) entries
              ++ record { instant = instant; message = w; handle = timed.given + 1 } ∷ []) (sym may.message);
          handled = handled_more timed instant m may.represents.handled;
          room = omega (arith, room, settled.long);
          count = has.count ∙ sym settled.long;
          armings = has.armings ∙ long;
          given = has.given;
          column = λ j less. column j (omega (arith, settled.long));
          arranged = subst (λ n. IsArranged (instant_in app mid) (number_in app mid) n next (entries ++ e ∷ [])) long
              (goes_last (listed may.represents.arranged) (same_numbers are is_row) has.numbers settled
              (λ x. omega (
                arith,
                ap (count x) (set-append_seam may.represents.heap e [] e),
                sum_by-append (one x) may.represents.heap (e ∷ []),
                may.represents.arranged.alike x,
              ))
              (omega (arith, may.represents.arranged.long)));
        })
