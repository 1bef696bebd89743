-- What the cells of the timer queue represent where a message goes last, armed for the first time or again: its row has
-- its instant, the next number and its handle, the rows of the others are as before, and the heap is in order.
use Rattle.rt_gen_queue.proofs.Vocabulary.{AllByRecursion, App, AreHandled, Armed, Delays, Entry, IsArranged, IsSome}
use Rattle.rt_gen_queue.proofs.Vocabulary.{IsTimedPlace, List, RepresentsTimer, Timed, [], all_append, all_counted, ap}
use Rattle.rt_gen_queue.proofs.Vocabulary.{arith, armed_messages, armed_place, armings_at, at, count}
use Rattle.rt_gen_queue.proofs.Vocabulary.{get_or_from_slice_get, handle_count_at, handles_at, heap_at, inl, inr}
use Rattle.rt_gen_queue.proofs.Vocabulary.{instants_at}
use Rattle.rt_gen_queue.proofs.Vocabulary.{length, map, map-append, message_at, numbers_at, refl, slice_get_within}
use Rattle.rt_gen_queue.proofs.Vocabulary.{slice_index, subst, sym, timer_at, ℕ, ◌*◌, ◌++◌, ◌+◌, ◌<◌, ◌∙◌, ◌∷◌, ◌≡◌}
use Rattle.rt_gen_queue.proofs.Vocabulary.{◌≢◌, ◌≤◌, ◌⊎◌}
use Rattle.rt_gen_timer.proofs.Alike.{AreSame, arranged_same, maps_alike}
use Rattle.rt_gen_timer.proofs.Alone.{IsTimerAlone, armed_in, armed_same, beside_timer, handle_in, instant_in}
use Rattle.rt_gen_timer.proofs.Alone.{message_same, number_in, timed_once, timed_row}
use Rattle.rt_gen_timer.proofs.Hollow.{IsBeside, IsHollow, IsKept, IsWhole}
use Rattle.rt_gen_timer.specs.{TimerCode.queue_of, declared.queue.TimerQueue.TimerQueue}
use Rattle.rt_gen_timer.specs.TimerLines.{handles_of, heap_of, instants_of, numbers_of}

-- a row has this instant, number and handle; of the cells after the counts no other is written, and none beside the
-- queue's
pub record IsRow (q : TimerQueue) (row instant number handle : ℕ) (before after : List ℕ) : Type 0 where
  pub instants : slice_index after (instants_of q + row) ≡ instant
  pub numbers : slice_index after (numbers_of q + row) ≡ number
  pub handles : slice_index after (handles_of q + row) ≡ handle
  pub others : (c : ℕ) → (c < q.at) ⊎ (instants_of q ≤ c) → c ≢ instants_of q + row → c ≢ numbers_of q + row
      → c ≢ handles_of q + row → slice_index after c ≡ slice_index before c

-- A message in its place, and the others in theirs, which are not its place.
pub record AreOthers (app : App) (others : List Entry) (e : Entry) : Type 0 where
  pub places : AllByRecursion (IsTimedPlace app) others
  pub place : IsTimedPlace app e
  pub differ : AllByRecursion (λ x. x ≢ e) others

module _ {app : App} {others : List Entry} {e : Entry} (are : AreOthers app others e) where
  pub own_row : armed_place app e < armed_messages app
  own_row = timed_row app e are.place

  pub other_row : (x : Entry) → 0 < count x others → armed_place app x < armed_messages app
  other_row x some = timed_row app x (all_counted (IsTimedPlace app) others x are.places some)

  row_apart : (x : Entry) → 0 < count x others → armed_place app x ≢ armed_place app e
  row_apart x some same =
      all_counted (λ x. x ≢ e) others x are.differ some
      (timed_once app x e (all_counted (IsTimedPlace app) others x are.places some) are.place same)

  -- all of them, with the message last
  abbrev with_last : List Entry
  with_last = others ++ e ∷ []

  all_places : AllByRecursion (IsTimedPlace app) with_last
  all_places = all_append (IsTimedPlace app) others (e ∷ []) are.places (are.place, tt)

  module _ {instant number handle : ℕ} {before mid : List ℕ}
      (row : IsRow (queue_of app) (armed_place app e) instant number handle before mid) where
    -- what the columns have of the others is as before
    pub same_instants : AreSame (instant_in app mid) (instant_in app before) others
    same_instants x some =
        let apart = row_apart x some in
        let there = other_row x some in
        row.others (instants_at app + armed_place app x) (inr (omega arith)) (omega arith) (omega arith) (omega arith)

    pub same_numbers : AreSame (number_in app mid) (number_in app before) others
    same_numbers x some =
        let apart = row_apart x some in
        let there = other_row x some in
        let own = own_row in
        row.others (numbers_at app + armed_place app x) (inr (omega arith)) (omega arith) (omega arith) (omega arith)

    same_handles : AreSame (handle_in app mid) (handle_in app before) others
    same_handles x some =
        let apart = row_apart x some in
        let own = own_row in
        row.others (handles_at app + armed_place app x) (inr (omega arith)) (omega arith) (omega arith) (omega arith)

    pub same_heap : (j : ℕ) → slice_index mid (heap_at app + j) ≡ slice_index before (heap_at app + j)
    same_heap j =
        let own = own_row in
        row.others (heap_at app + j) (inr (omega arith)) (omega arith) (omega arith) (omega arith)

    -- where the loops begin, on a list that is the heap of before but for a position
    pub hollow_last : {size n i : ℕ} {heap xs : List Entry}
        → IsWhole (queue_of app) (armed_place app) (instant_in app before) (number_in app before) size before heap
        → (n ≤ armed_messages app) × (length xs ≡ n) × (i < n)
        → ((j : ℕ) → j < n → j ≢ i → (j < size) × (at heap j ≡ at xs j) × (0 < count (at heap j) others))
        → IsHollow (queue_of app) (armed_place app) (instant_in app mid) (number_in app mid) n mid xs i
    hollow_last {heap = heap} whole shape same = record {
      room = shape.0;
      long = shape.1;
      within = shape.2;
      column = λ j less apart.
          same_heap j ∙ whole.column j (same j less apart).0 ∙ ap (armed_place app) (same j less apart).1;
      kept = λ j less apart.
          let here = same j less apart in
          let kept = whole.kept j here.0 in
          subst (IsKept (queue_of app) (armed_place app) (instant_in app mid) (number_in app mid) mid) here.1
          (record {
            room = kept.room;
            instants = refl;
            numbers = refl;
            small = omega (arith, kept.small, same_numbers (at heap j) here.2);
          });
    }

    module _ {after : List ℕ} (beside : IsBeside (queue_of app) mid after) where
      -- only cells of the timer queue are others
      pub last_alone : IsSome app.mono → IsTimerAlone app before after
      last_alone mono c other =
          let out = beside_timer app mono c other in
          let own = own_row in
          beside.others c (out_of out)
          ∙ row.others c (out_of_counts out) (omega (arith, out)) (omega (arith, out)) (omega (arith, out))
        where
          out_of : (c < timer_at app) ⊎ (timer_at app + (3 + 4 * armed_messages app) ≤ c)
              → (c < heap_of (queue_of app)) ⊎ (heap_of (queue_of app) + armed_messages app ≤ c)
          out_of out = grind (arith, out)

          out_of_counts : (c < timer_at app) ⊎ (timer_at app + (3 + 4 * armed_messages app) ≤ c)
              → (c < timer_at app) ⊎ (instants_of (queue_of app) ≤ c)
          out_of_counts out = grind (arith, out)

      unmoved : (c : ℕ) → c < heap_at app → slice_index after c ≡ slice_index mid c
      unmoved c low = beside.others c (inl low)

      -- what is armed then
      abbrev last_armed : Armed
      last_armed = record { instant = instant; message = message_at app (slice_index before) e; handle = handle }

      armed_then : IsTimerAlone app before after
          → map (armed_in app before) others ++ last_armed ∷ [] ≡ map (armed_in app after) with_last
      armed_then alone =
          let old : AreSame (armed_in app before) (armed_in app after) others =
          λ x some.
          let low = other_row x some in
          armed_same app before after alone x (all_counted (IsTimedPlace app) others x are.places some)
          (unmoved (instants_at app + armed_place app x) (omega arith) ∙ same_instants x some)
          (unmoved (handles_at app + armed_place app x) (omega arith) ∙ same_handles x some) in
          let own = own_row in
          let i : instant_in app after e ≡ instant =
          unmoved (instants_at app + armed_place app e) (omega arith) ∙ row.instants in
          let h : handle_in app after e ≡ handle =
          unmoved (handles_at app + armed_place app e) (omega arith) ∙ row.handles in
          let word = message_same app before after alone e are.place in
          let new : last_armed ≡ armed_in app after e =
          λ k. record { instant = sym i k; message = word k; handle = sym h k } in
          ap (λ list. list ++ last_armed ∷ []) (maps_alike (armed_in app before) (armed_in app after) others old)
          ∙ ap (λ a. map (armed_in app after) others ++ a ∷ []) new
          ∙ sym (map-append (armed_in app after) others (e ∷ []))

      -- The counts, the heap and the armed messages are these.
      pub record IsLast (timed : Timed) (next : List Entry) : Type 0 where
        pub messages : timed.armed ≡ map (armed_in app before) others ++ last_armed ∷ []
        pub handled : AreHandled timed
        pub room : length next ≤ armed_messages app
        pub count : slice_index mid (timer_at app) ≡ length next
        pub armings : slice_index mid (armings_at app) ≡ timed.given + timed.moved
        pub given : slice_index mid (handle_count_at app) ≡ timed.given
        pub column : (j : ℕ) → j < length next → slice_index after (heap_at app + j) ≡ armed_place app (at next j)
        pub arranged : IsArranged (instant_in app mid) (number_in app mid) (timed.given + timed.moved) next with_last

      -- that is what the cells represent
      pub represents_last : IsSome app.mono → {timed : Timed} {next : List Entry} → IsLast timed next
          → RepresentsTimer app (slice_index after) with_last (Delays timed)
      represents_last mono {timed = timed} {next = next} last =
          let low : (x : Entry) → 0 < count x with_last → armed_place app x < armed_messages app =
          λ x some. timed_row app x (all_counted (IsTimedPlace app) with_last x all_places some) in
          record {
            timed = timed;
            is = refl;
            messages = last.messages ∙ armed_then (last_alone mono);
            handled = last.handled;
            places = all_places;
            room = omega (arith, last.room, last.arranged.long);
            count = unmoved (timer_at app) (omega arith) ∙ last.count ∙ last.arranged.long;
            armings = unmoved (armings_at app) (omega arith) ∙ last.armings;
            given = unmoved (handle_count_at app) (omega arith) ∙ last.given;
            heap = next;
            column = λ j x there.
                last.column j (slice_get_within next j x there)
                ∙ ap (armed_place app) (get_or_from_slice_get next j x (record { task = 0; place = 0 }) there);
            arranged = arranged_same
                (λ x some. unmoved (instants_at app + armed_place app x) (omega (arith, low x some)))
                (λ x some. unmoved (numbers_at app + armed_place app x) (omega (arith, low x some))) last.arranged;
          }
