-- A message is put to another instant: the lines by which its row gets it, and what the cells of the timer queue
-- represent then. It goes last, with the next number and its handle, and the others are as before.
use Rattle.rt_gen_queue.proofs.Vocabulary.{AllByRecursion, App, AreHandled, Armed, Content, Delays, Entry, IsArranged}
use Rattle.rt_gen_queue.proofs.Vocabulary.{IsSome, IsTimedPlace, Line, List, MayArm, RepresentsTimer, [], ap}
use Rattle.rt_gen_queue.proofs.Vocabulary.{append_assoc}
use Rattle.rt_gen_queue.proofs.Vocabulary.{arith, message_of_handle, armed_place, at, handle_count_at, heap_at, key_of}
use Rattle.rt_gen_queue.proofs.Vocabulary.{length}
use Rattle.rt_gen_queue.proofs.Vocabulary.{length_push, map, map-append, operate, refl, slice_index, subst, sym}
use Rattle.rt_gen_queue.proofs.Vocabulary.{timer_at, with_moved, without_handle, ℕ, ◌++◌, ◌+◌, ◌<◌, ◌^◌, ◌∙◌, ◌∷◌, ◌≡◌}
use Rattle.rt_gen_queue.proofs.Vocabulary.{◌≢◌}
use Rattle.rt_actions.specs.Content.{postponed_message}
use Rattle.rt_ids.specs.declared.op.Op.TheVariants as op
use Rattle.rt_gen_queue.proofs.{Layer.Here, Layer.Setting, Layer.Straight, Layer.ahead, Layer.calculates, Layer.loads}
use Rattle.rt_gen_queue.proofs.{Layer.reads_open, Layer.stores, Layer.stores_at, Layer.writes_open, Numbers.added}
use Rattle.rt_gen_timer.proofs.{Handled.handled_last, Hollow.IsBeside, Hollow.IsHollow, Moves.HasHole, Moves.HasSettled}
use Rattle.rt_gen_timer.proofs.{Moves.count_put, Numbered.all_less, Represented.place_of, Represented.represented_count}
use Rattle.rt_gen_timer.proofs.{Represented.represented_whole, Window.Slots, Window.Words, Window.words}
use Rattle.rt_gen_timer.proofs.Acting.{Columns, armings_open, columns_on, instant_open, number_open}
use Rattle.rt_gen_timer.proofs.Alone.{armed_in, handle_in, instant_in, number_in}
use Rattle.rt_gen_timer.proofs.Arranged.{IsOfHandle, count_less, elsewhere, goes_last, length_less, listed_less}
use Rattle.rt_gen_timer.proofs.Arranged.{move_begins, others_differ}
use Rattle.rt_gen_timer.proofs.Lasting.{AreOthers, IsRow, hollow_last, own_row, same_instants, same_numbers}
use Rattle.rt_gen_timer.proofs.Lasting.{represents_last}
use Rattle.rt_gen_timer.specs.{TimerCode.queue_of, declared.queue.TimerQueue.TimerQueue}
use Rattle.rt_gen_timer.specs.TimerLines.{again_lines, armings_of, handles_of, instants_of, numbers_of}

-- a row has another instant and the next number, and the count of armings is one more
pub record IsAgain (q : TimerQueue) (row instant a : ℕ) (before after : List ℕ) : Type 0 where
  pub armings : slice_index after (armings_of q) ≡ a + 1
  pub instants : slice_index after (instants_of q + row) ≡ instant
  pub numbers : slice_index after (numbers_of q + row) ≡ a
  pub others : (c : ℕ) → c ≢ armings_of q → c ≢ instants_of q + row → c ≢ numbers_of q + row
      → slice_index after c ≡ slice_index before c
  pub long : length after ≡ length before

module _ {z : Setting} {f : Slots} {q : TimerQueue} {lines : List Line} {h : Here} where
  -- the row in the hand gets the instant in its slot and the next number, in 5 steps
  pub again_stands : (w : Words) {a : ℕ} → Columns z q h.held h.cells → slice_index h.cells (armings_of q) ≡ a
      → a + 1 < 2 ^ 32 → w.hand < q.messages → w.one ≡ 1
      → ((cells : List ℕ) → IsAgain q w.hand w.instant a h.cells cells
      → Straight z f lines (record (ahead 5 h) { cells = cells }) (words (record w { arming = a; other = a + 1 })))
      → Straight z f (again_lines q 0 ++ lines) h (words w)
  again_stands w {a = a} columns counted small there one on =
      loads a (reads_open (armings_open columns) counted)
      (calculates (a + 1) (ap (operate op.Add a) one ∙ added a 1 (a + 1) refl small)
      (stores (a + 1) refl (writes_open (armings_open columns))
      (λ c1 first.
      let columns1 = columns_on columns first.long in
      stores_at w.hand w.instant refl refl (writes_open (instant_open columns1 there))
      (λ c2 second.
      let columns2 = columns_on columns1 second.long in
      stores_at w.hand a refl refl (writes_open (number_open columns2 there))
      (λ c3 third.
      on c3
      (record {
        armings = third.others (armings_of q) (omega arith) ∙ second.others (armings_of q) (omega arith) ∙ first.here;
        instants = third.others (instants_of q + w.hand) (omega arith) ∙ second.here;
        numbers = third.here;
        others = λ c no_armings no_instant no_number.
            third.others c no_number ∙ second.others c no_instant ∙ first.others c no_armings;
        long = third.long ∙ second.long ∙ first.long;
      }))))))

-- The message of a handle, at a position in the heap, may be put to another instant.
pub record MayMove (app : App) (entries : List Entry) (content : Content) (before : List ℕ) (i task handle : ℕ)
    : Type 0 where
  pub mono : IsSome app.mono
  pub represents : RepresentsTimer app (slice_index before) entries content
  pub few : MayArm content
  pub within : i < length represents.heap
  pub found : IsOfHandle (armed_in app before) entries (at represents.heap i) task handle

module _ {app : App} {entries : List Entry} {content : Content} {before : List ℕ} {i task handle : ℕ}
    (may : MayMove app entries content before i task handle) where
  -- the message, and the others in their order
  abbrev the_one : Entry
  the_one = at may.represents.heap i

  abbrev the_others : List Entry
  the_others = may.found.before ++ may.found.behind

  abbrev armings_so_far : ℕ
  armings_so_far = may.represents.timed.given + may.represents.timed.moved

  abbrev size : ℕ
  size = length may.represents.heap

  pub are : AreOthers app the_others the_one
  are = record {
    places = all_less (IsTimedPlace app) may.found.before may.found.behind the_one
        (subst (AllByRecursion (IsTimedPlace app)) may.found.parts may.represents.places);
    place = place_of may.represents i may.within;
    differ = others_differ may.represents.arranged may.found.before may.found.behind the_one may.found.parts;
  }

  -- with it after them they are as many
  pub last_long : size ≡ length (may.found.before ++ (may.found.behind ++ the_one ∷ []))
  last_long =
      length_less may.represents.arranged may.found.before may.found.behind the_one may.found.parts
      ∙ sym (length_push the_others the_one)
      ∙ ap length (append_assoc may.found.before may.found.behind (the_one ∷ []))

  module _ {instant : ℕ} {mid : List ℕ}
      (again : IsAgain (queue_of app) (armed_place app the_one) instant armings_so_far before mid) where
    pub is_row : IsRow (queue_of app) (armed_place app the_one) instant armings_so_far (handle_in app before the_one)
        before mid
    is_row =
        let own = own_row are in
        record {
          instants = again.instants;
          numbers = again.numbers;
          handles = again.others (handles_of (queue_of app) + armed_place app the_one) (omega arith) (omega arith)
              (omega arith);
          others = λ c out instants numbers handles. again.others c (omega (arith, out)) instants numbers;
        }

    -- where the loops begin
    pub again_hole : HasHole size (key_of (instant_in app mid) (number_in app mid)) may.represents.heap i
    again_hole =
        move_begins may.represents.arranged may.found.before may.found.behind may.within may.found.parts
        (same_instants are is_row) (same_numbers are is_row)

    pub again_hollow : IsHollow (queue_of app) (armed_place app) (instant_in app mid) (number_in app mid) size mid
        may.represents.heap i
    again_hollow =
        let whole = represented_whole before may.represents may.few in
        hollow_last are is_row whole (whole.room, refl, may.within)
        (λ j less apart. (
          less,
          refl,
          elsewhere may.represents.arranged may.found.before may.found.behind may.within may.found.parts j less apart,
        ))

    -- the armed messages then
    abbrev put_off : Armed
    put_off = record (armed_in app before the_one) { instant = instant }

    armed_then : (with_moved task handle instant may.represents.timed).armed
        ≡ map (armed_in app before) the_others ++ put_off ∷ []
    armed_then =
        ap (λ list. list ++ postponed_message instant (message_of_handle task handle may.represents.timed.armed))
        (ap (without_handle task handle) may.represents.messages ∙ may.found.others)
        ∙ ap (λ o. map (armed_in app before) the_others ++ postponed_message instant o)
        (ap (message_of_handle task handle) may.represents.messages ∙ may.found.found)

    handled_then : AreHandled (with_moved task handle instant may.represents.timed)
    handled_then =
        subst (λ list. AreHandled (record may.represents.timed {
          moved = may.represents.timed.moved + 1;
          armed =
              list;
        }))
        (sym (armed_then ∙ ap (λ list. list ++ put_off ∷ []) (map-append (armed_in app before) may.found.before
        may.found.behind)))
        (handled_last may.represents.timed (map (armed_in app before) may.found.before)
        (map (armed_in app before) may.found.behind) (armed_in app before the_one) may.represents.handled
        (may.represents.messages ∙ ap (map (armed_in app before)) may.found.parts
        ∙ map-append (armed_in app before) may.found.before (the_one ∷ may.found.behind)) instant
        (may.represents.timed.moved + 1))

    -- The rows of the heap are in its column, and nothing else is written: that is what the cells represent then.
    pub represented_moved : {after : List ℕ} {next : List Entry} → IsBeside (queue_of app) mid after
        → ((j : ℕ) → j < size → slice_index after (heap_at app + j) ≡ armed_place app (at next j))
        → HasSettled size (key_of (instant_in app mid) (number_in app mid)) the_one may.represents.heap i next
        → RepresentsTimer app (slice_index after) (may.found.before ++ (may.found.behind ++ the_one ∷ []))
        (Delays (with_moved task handle instant may.represents.timed))
    represented_moved {after = after} {next = next} beside column settled =
        let s = may.represents in
        let a = s.arranged in
        let parts = may.found.parts in
        let long : armings_so_far + 1 ≡ s.timed.given + (s.timed.moved + 1) = omega arith in
        subst (λ es. RepresentsTimer app (slice_index after) es (Delays (with_moved task handle instant s.timed)))
        (append_assoc may.found.before may.found.behind (the_one ∷ []))
        (represents_last are is_row beside may.mono
        (record {
          messages = armed_then;
          handled = handled_then;
          room = omega (arith, settled.long, a.long, s.room);
          count = again.others (timer_at app) (omega arith) (omega arith) (omega arith) ∙ represented_count s
              ∙ sym settled.long;
          armings = again.armings ∙ long;
          given = again.others (handle_count_at app) (omega arith) (omega arith) (omega arith) ∙ s.given;
          column = λ j less. column j (omega (arith, settled.long));
          arranged = subst
              (λ n. IsArranged (instant_in app mid) (number_in app mid) n next (the_others ++ the_one ∷ [])) long
              (goes_last (listed_less a may.found.before may.found.behind the_one parts) (same_numbers are is_row)
              again.numbers settled
              (λ x. omega (
                arith,
                count_put s.heap i the_one x may.within,
                count_less a may.found.before may.found.behind the_one parts x,
              ))
              (length_less a may.found.before may.found.behind the_one parts));
        }))
