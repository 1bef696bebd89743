-- What the cells of the timer queue represent once a message left its heap: the others, in order of their last arming,
-- each with its instant, its handle and its arguments as before.
use Rattle.rt_gen_queue.proofs.Vocabulary.{AllByRecursion, App, AreHandled, Armed, Content, Delays, Entry, IsSome}
use Rattle.rt_gen_queue.proofs.Vocabulary.{IsTimedPlace, List, Option, RepresentsTimer, all_counted, ap, arith}
use Rattle.rt_gen_queue.proofs.Vocabulary.{armed_messages, armed_place, armings_at, at, count, get_or_from_slice_get}
use Rattle.rt_gen_queue.proofs.Vocabulary.{handle_count_at, handles_at, heap_at, inl, inr, instants_at, key_of, map}
use Rattle.rt_gen_queue.proofs.Vocabulary.{map-append, numbers_at, refl, slice_get_within, slice_index, subst, sym}
use Rattle.rt_gen_queue.proofs.Vocabulary.{timer_at, ℕ, ◌++◌, ◌+◌, ◌<◌, ◌∙◌, ◌∷◌, ◌≡◌, ◌≢◌, ◌≤◌, ◌⊎◌}
use Rattle.rt_gen_timer.proofs.{Alike.AreSame, Alike.arranged_same, Alike.maps_alike, Alone.IsTimerAlone}
use Rattle.rt_gen_timer.proofs.{Alone.armed_in, Alone.armed_same, Alone.beside_timer, Alone.instant_in, Alone.number_in}
use Rattle.rt_gen_timer.proofs.{Alone.timed_row, Arranged.IsPicked, Arranged.IsWithout, Arranged.left}
use Rattle.rt_gen_timer.proofs.{Handled.handled_less, Hollow.IsWhole, Numbered.all_less}
use Rattle.rt_gen_timer.specs.TimerCode.{queue_of}

-- cells beside the count and the heap's column are as before
pub record IsAsBefore (app : App) (before after : List ℕ) : Type 0 where
  pub cells : (c : ℕ) → c ≢ timer_at app → (c < heap_at app) ⊎ (heap_at app + armed_messages app ≤ c)
      → slice_index after c ≡ slice_index before c

module _ {app : App} {before after : List ℕ} (mono : IsSome app.mono) (kept : IsAsBefore app before after) where
  -- so are cells that are none of the timer queue's
  pub alone : IsTimerAlone app before after
  alone c other =
      elim (beside_timer app mono c other) [
        | inl less ↦ kept.cells c (omega (arith, less)) (inl (omega (arith, less)))
        | inr past ↦ kept.cells c (omega (arith, past)) (inr (omega (arith, past)))
      ]

  -- A message left the heap from a position of it: the cells represent the others.
  pub timer_left : {entries : List Entry} {content : Content}
      (s : RepresentsTimer app (slice_index before) entries content)
      → {i n : ℕ} {next : List Entry} {search : List Armed → Option Armed} {rest : List Armed → List Armed}
      (picked : IsPicked (armed_in app before) entries (at s.heap i) search rest)
      → IsWithout (key_of (instant_in app before) (number_in app before)) s.heap i next
      → IsWhole (queue_of app) (armed_place app) (instant_in app before) (number_in app before) n after next
      → slice_index after (timer_at app) ≡ n
      → RepresentsTimer app (slice_index after) (picked.before ++ picked.behind)
      (Delays (record s.timed { armed = rest s.timed.armed }))
  timer_left {entries = entries} s {i = i} {n = n} {next = next} {rest = rest} picked without whole counted =
      let read = armed_in app before in
      let e : Entry = at s.heap i in
      let others : List Entry = picked.before ++ picked.behind in
      let armed_is = ap rest s.messages ∙ picked.others in
      let places : AllByRecursion (IsTimedPlace app) others =
      all_less (IsTimedPlace app) picked.before picked.behind e
      (subst (AllByRecursion (IsTimedPlace app)) picked.parts s.places) in
      let place : (x : Entry) → 0 < count x others → IsTimedPlace app x =
      λ x some. all_counted (IsTimedPlace app) others x places some in
      let fewer = left s.arranged picked.before picked.behind picked.parts without in
      let column : (at_first : ℕ) → (x : Entry) → 0 < count x others → timer_at app + 3 ≤ at_first
      → at_first + armed_messages app ≤ heap_at app
      → slice_index after (at_first + armed_place app x) ≡ slice_index before (at_first + armed_place app x) =
      λ at_first x some least most.
      (let row = timed_row app x (place x some) in
      kept.cells (at_first + armed_place app x) (omega arith) (inl (omega arith))) in
      let instants : AreSame (instant_in app after) (instant_in app before) others =
      λ x some. column (instants_at app) x some (omega arith) (omega arith) in
      record {
        timed = record s.timed { armed = rest s.timed.armed };
        is = refl;
        messages = armed_is
            ∙ maps_alike read (armed_in app after) others
            (λ x some.
            armed_same app before after alone x (place x some) (instants x some)
            (column (handles_at app) x some (omega arith) (omega arith)));
        handled = subst (λ armed. AreHandled (record s.timed { armed = armed }))
            (sym (armed_is ∙ map-append read picked.before picked.behind))
            (handled_less s.timed (map read picked.before) (map read picked.behind) (read e) s.handled
            (s.messages ∙ ap (map read) picked.parts ∙ map-append read picked.before (e ∷ picked.behind)));
        places = places;
        room = omega (arith, fewer.long, whole.long, whole.room);
        count = counted ∙ sym whole.long ∙ fewer.long;
        armings = kept.cells (armings_at app) (omega arith) (inl (omega arith)) ∙ s.armings;
        given = kept.cells (handle_count_at app) (omega arith) (inl (omega arith)) ∙ s.given;
        heap = next;
        column = λ j x is.
            whole.column j (omega (arith, whole.long, slice_get_within next j x is))
            ∙ ap (armed_place app) (get_or_from_slice_get next j x (record { task = 0; place = 0 }) is);
        arranged = arranged_same instants
            (λ x some. column (numbers_at app) x some (omega arith) (omega arith)) fewer;
      }
