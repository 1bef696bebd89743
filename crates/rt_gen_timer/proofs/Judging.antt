-- The timer handler: what it has where it begins and what its priority keeps meanwhile; its first lines, by which the
-- section of the timer queue opens and by the clock the first message of the heap is due, or none is; and that it
-- returns where none is.
use Rattle.rt_gen_queue.proofs.Vocabulary.{Agree, App, Armed, At, AtPriority, BodyRow, Bool, Clocks, Content, Delays}
use Rattle.rt_gen_queue.proofs.Vocabulary.{Doing, Entry, Fires, Guarded, HasCodeAt, OpenSection, Location, Home}
use Rattle.rt_gen_queue.proofs.Vocabulary.{IsAccepted}
use Rattle.rt_gen_queue.proofs.Vocabulary.{IsSome, IsTimedPlace, IsWithin, LeavesMine, Line, List, MayLoad, None}
use Rattle.rt_gen_queue.proofs.Vocabulary.{Number, Option, Own, Rest, Returns, Some, Configuration, Values, [], act}
use Rattle.rt_gen_queue.proofs.Vocabulary.{act_all}
use Rattle.rt_gen_queue.proofs.Vocabulary.{and_both, ap, arith, arming_of_entry, armed_place, at, cases_lt, ceiling}
use Rattle.rt_gen_queue.proofs.Vocabulary.{delays}
use Rattle.rt_gen_queue.proofs.Vocabulary.{does, drop, home_of, if◌then◌else◌, inl, inr, le-leb, le-ltb, leave_timer}
use Rattle.rt_gen_queue.proofs.Vocabulary.{length, local_is_home, lt-ltb, map, memory, nat_le, nat_lt, nothing}
use Rattle.rt_gen_queue.proofs.Vocabulary.{number_of, owns_reads, plain, reads, reads_more, ready_actions, refl}
use Rattle.rt_gen_queue.proofs.Vocabulary.{resource_is_home, slice_index, storage, subst, sym, task_priority, then_from}
use Rattle.rt_gen_queue.proofs.Vocabulary.{timer_content, timer_cost, true, ℕ, ◌++◌, ◌+◌, ◌<◌, ◌^◌, ◌∙◌, ◌∷◌, ◌≡◌, ◌≤◌}
use Rattle.std.proofs.lemmas.Bool.{lt-leb}
use Rattle.rt_ids.specs.declared.ids.Section.TheVariants as section
use Rattle.rt_app.specs.Doings.{due, fire_doing, timer_doing_in}
use Rattle.rt_code.proofs.Mine.{owns_kept}
use Rattle.rt_code.specs.declared.instr.Instr.TheVariants as instr
use Rattle.rt_gen_queue.proofs.{Numbers.steps_and, Owning.home_as, Owning.timer_represented}
use Rattle.rt_gen_queue.proofs.Entering.{enter_fits, enter_placed, enters, opened, saves_below, saves_inside}
use Rattle.rt_gen_queue.proofs.Layer.{Here, Now, S, Setting, Straight, calculates, clocks, ends, jumps_off, loads}
use Rattle.rt_gen_queue.proofs.Layer.{loads_at, next_in_time, reads_open, returns_here, sets, configuration, stays}
use Rattle.rt_gen_timer.proofs.{Alone.instant_in, Arranged.IsLeast, Arranged.first_is_armed, Arranged.none_armed}
use Rattle.rt_gen_timer.proofs.{Delaying.at_here, Delaying.rest_is, Opening.MayOpen, Opening.may_enter, Window.Slots}
use Rattle.rt_gen_timer.proofs.{Window.Words, Window.words}
use Rattle.rt_gen_timer.proofs.Acting.{Columns, code_first, code_part, count_open, first_open, instant_open, run_stands}
use Rattle.rt_gen_timer.proofs.Calling.{Inside, IsInside, at_work, columns_now, entries, queue_now}
use Rattle.rt_gen_timer.proofs.Closing.{closes_timer, closing_fit, closing_lines, closing_placed}
use Rattle.rt_gen_timer.proofs.Represented.{few_armings, row_of, represented_column, represented_count}
use Rattle.rt_gen_timer.specs.{TimerCode.queue_of, TimerCode.timer_code, TimerLines.due_lines, TimerLines.heap_of}

-- what a priority keeps is represented
pub record AreKept (app : App) (threshold : ℕ) (cells : List ℕ) (queues : Location → List Entry) (vs : Values) : Type
    0 where
  pub represents : (h : Location) → (storage app).is_kept (AtPriority threshold) h ≡ true
      → (storage app).Represents h (slice_index cells) (queues h) (vs h)

-- Others leave it: it is represented by cells of its own alone.
pub kept_on : {app : App} {threshold : ℕ} {s : Configuration} {after : List ℕ} {later : Location
    → List Entry} {vs ws : Values}
    → AreKept app threshold s.cells s.queues vs → LeavesMine (storage app) (AtPriority threshold) s after later
    → Agree (storage app) (AtPriority threshold) [] ws vs → AreKept app threshold after later ws
unfolding storage
kept_on {app = app} {threshold = threshold} {s = s} {after = after} {later = later} {vs = vs} {ws = ws} kept left
    agree =
    record { represents = go }
  where
    readable : (held : List OpenSection) (h : Location) → (storage app).is_kept (AtPriority threshold) h ≡ true
        → reads (storage app) (AtPriority threshold) held h ≡ true
    readable held h own =
        owns_reads (storage app) (AtPriority threshold) held h
        (owns_kept (storage app) (AtPriority threshold) held h own)

    one : (c : ℕ) (h : Location) → (storage app).is_kept (AtPriority threshold) h ≡ true → home_of app c ≡ At h
        → vs h ≡ Number (slice_index s.cells c) → ws h ≡ Number (slice_index after c)
    one c h own home is =
        let may : MayLoad (storage app) (AtPriority threshold) s ((storage app).home c) =
        subst (λ (home : Home). MayLoad (storage app) (AtPriority threshold) s home) (sym (home_as app c ∙ home))
        (readable s.held h own) in
        agree h (readable [] h own) ∙ is ∙ ap Number (sym (left.touched c may))

    go : (h : Location) → (storage app).is_kept (AtPriority threshold) h ≡ true
        → (storage app).Represents h (slice_index after) (later h) (ws h)
    go (Guarded (section.Res r)) own =
        let x : Location = Guarded (section.Res r) in
        let was = kept.represents x own in (was.0, one r x own (resource_is_home app r was.0) was.1)
    go (Guarded (section.Free n)) own = absurd cc
    go (Guarded (section.Ready p)) own = absurd cc
    go (Guarded section.Timer) own = absurd cc
    go (Own n) own =
        let was = kept.represents (Own n) own in
        (was.0, one (length app.shared + n) (Own n) own (local_is_home app n was.0) was.1)

-- A timer handler: its code, its threshold, its cost, the address where it begins, the slots after its window, and
-- what it has where it begins.
pub record Handler : Type 0 where
  pub app : App
  pub code : List Line
  pub bodies : List BodyRow
  pub thread : ℕ
  pub threshold : ℕ
  pub cost : ℕ
  pub first : ℕ
  pub back : List ℕ
  pub cells : List ℕ
  pub queues : Location → List Entry
  pub values : Values

abbrev pub setting : Handler → Setting
setting k = record {
  app = k.app;
  code = k.code;
  bodies = k.bodies;
  thread = k.thread;
  who = AtPriority k.threshold;
  caller = None;
}

-- its window begins with its frame
abbrev pub frame : Handler → Slots
frame k = record { slot = 0; front = []; back = k.back; begins = refl }

abbrev pub begun : Handler → Here
begun k = record {
  held = [];
  done = 0;
  until = timer_cost k.app;
  deadlines = timer_cost k.app ∷ [];
  places = [];
  slots = [];
  at = k.first;
  cells = k.cells;
  queues = k.queues;
  rest = timer_doing_in k.app k.cost k.values;
}

-- What it has is as it was there, its code stands, and it can go on.
pub record MayHandle (k : Handler) : Type 0 where
  pub accepted : IsAccepted k.app
  pub mono : IsSome k.app.mono
  pub code : HasCodeAt k.code k.first (timer_code k.app k.threshold k.first)
  pub least : 64 ≤ k.cost
  pub kept : AreKept k.app k.threshold k.cells k.queues k.values
  pub long : length k.cells ≡ length (memory k.app)
  pub within : IsWithin (storage k.app) (AtPriority k.threshold) (AtPriority k.threshold) section.Timer
  pub enters : (e : Entry) → IsTimedPlace k.app e → k.threshold ≤ ceiling k.app
      (section.Ready (task_priority k.app e.task))

-- so it may enter the section of the timer queue
pub may_open : {k : Handler} → MayHandle k → MayOpen (setting k) (frame k) k.threshold (begun k)
may_open may = record {
  accepted = may.accepted;
  timed = may.mono;
  masks = tt;
  off = omega arith;
  within = may.within;
  closed = refl;
}

module _ (app : App) where
  -- what is left after the clock
  abbrev clock_rest : ℕ → Rest
  clock_rest time vs = fire_doing app (due app time (delays (vs (Guarded section.Timer)))) vs

  -- what is left where none is due
  abbrev idle_rest : Rest
  idle_rest = leave_timer app (act Returns nothing)

  -- and where this message is due
  abbrev pub due_rest : Armed → Rest
  due_rest a =
      act (Fires a.message)
      (leave_timer app
      (act_all (ready_actions app (task_priority app a.message.task) a.message ++ Returns ∷ []) nothing))

-- what the section took over, and the values after the clock
pub record Took : Type 0 where
  pub vs : Values
  pub us : Values
  pub cells : List ℕ
  pub queues : Location → List Entry

abbrev pub inside : Handler → Took → Inside
inside k d = record {
  z = setting k;
  f = frame k;
  threshold = k.threshold;
  cost = k.cost;
  h = begun k;
  before = k.values;
  cells = d.cells;
  queues = d.queues;
  values = d.vs;
}

-- the handler there, with this left to do
abbrev pub in_section : (k : Handler) → Took → (done at : ℕ) → List ℕ → Doing Values → Here
in_section k d done at cells rest = at_work (inside k d) done at [] cells d.queues rest

-- what is known there: what the queue represents, and that what may be read is as it was then
pub record Known (k : Handler) (d : Took) : Type 0 where
  pub now : IsInside (inside k d)
  pub agree : Agree (storage k.app) (AtPriority k.threshold) (opened (setting k) (frame k) section.Timer k.threshold
      ∷ []) d.us
      d.vs

-- the words where a message may be due: the time, the count, the first row and its instant
abbrev pub judged_words : Words → ℕ → ℕ → ℕ → ℕ → ℕ → ℕ → Words
judged_words w mask time n row instant other = record w {
  mask = mask;
  one = 1;
  two = 2;
  answer = time;
  count = n;
  place = row;
  instant = instant;
  other = other;
}

module _ {k : Handler} {d : Took} (known : Known k d) where
  -- the queue's content is what was taken over
  pub same_timed : d.us (Guarded section.Timer) ≡ Delays known.now.represents.timed
  same_timed = queue_now known.now known.agree

  -- the first message of the heap, and its instant
  abbrev pub foremost : Entry
  foremost = at known.now.represents.heap 0

  abbrev pub foremost_instant : ℕ
  foremost_instant = instant_in k.app d.cells foremost

  armed_are : delays (d.us (Guarded section.Timer)) ≡ map (arming_of_entry k.app (slice_index d.cells))
      (entries (inside k d))
  armed_are = ap delays same_timed ∙ known.now.represents.messages

  -- nothing is due where nothing is armed
  none_due : (time : ℕ) → length known.now.represents.heap ≡ 0 → clock_rest k.app time d.us ≡ idle_rest k.app d.us
  none_due time none =
      ap (λ armed. fire_doing k.app (due k.app time armed) d.us)
      (armed_are ∙ ap (map (arming_of_entry k.app (slice_index d.cells)))
      (none_armed known.now.represents.arranged none))

  module _ (some : 0 < length known.now.represents.heap) where
    pub is_least : IsLeast (arming_of_entry k.app (slice_index d.cells)) (entries (inside k d)) foremost
    is_least =
        first_is_armed known.now.represents.arranged (arming_of_entry k.app (slice_index d.cells)) (λ x. refl)
        (omega (arith, few_armings known.now.represents known.now.taken.few)) some

    -- whether it is due decides it
    decides : (time : ℕ) {b : Bool} → nat_le foremost_instant time ≡ b
        → clock_rest k.app time d.us
        ≡ fire_doing k.app (if b then Some (arming_of_entry k.app (slice_index d.cells) foremost) else None) d.us
    decides time is =
        ap (λ o. fire_doing k.app o d.us)
        (ap (due k.app time) armed_are
        ∙ ap (λ o. then_from o (λ (a : Armed). if nat_le a.instant time then Some a else None)) is_least.picked.found
        ∙ ap {B = Option Armed} (λ b. if b then Some (arming_of_entry k.app (slice_index d.cells) foremost) else None)
        is)

module _ {k : Handler} (may : MayHandle k) where
  -- No message is due: the section closes with the alarm set, and it returns.
  idles : {d : Took} (known : Known k d) (done : ℕ) (v : Words) → done ≤ 10
      → v.count ≡ length known.now.represents.heap
      → S (setting k) (Now (frame k) (in_section k d done (k.first + 10) d.cells (idle_rest k.app d.us)) (words v))
  idles {d = d} known done v soon counted =
      let x = section.Timer in
      let same : d.us (Guarded x) ≡ d.vs (Guarded x) = same_timed known ∙ sym known.now.represents.is in
      run_stands {f = frame k} {k = done + 8} (in_section k d done (k.first + 10) d.cells (idle_rest k.app d.us)) v
      (closing_lines k.app k.threshold (k.first + 10) (plain instr.Ret ∷ []))
      (record {
        time = (omega arith, (omega (arith, may.least), (omega arith, tt)));
        saves = saves_inside (may_enter (may_open may));
      })
      (omega arith) (closing_fit k.app k.threshold (k.first + 10) (plain instr.Ret ∷ []) refl)
      (closing_placed k.app k.threshold k.code (frame k) (k.first + 10) (plain instr.Ret ∷ [])
      (code_part k.code k.first (timer_code k.app k.threshold k.first) 10 8 may.code))
      (closes_timer k.threshold v
      (record {
        accepted = may.accepted;
        mono = may.mono;
        columns = columns_now known.now refl;
        counted = counted ∙ known.now.represents.arranged.long;
        represented = subst (λ (c : Content). (storage k.app).Represents (Guarded x) (slice_index d.cells)
            (d.queues (Guarded x)) c) (sym same) known.now.taken.represented;
        few = subst (λ (c : Content). (timer_content c).given + (timer_content c).moved ≤ 2 ^ 32)
            (sym (same_timed known))
            (omega (arith, few_armings known.now.represents known.now.taken.few));
      }) refl refl refl
      (λ finished other ws early agree.
      record {
        runs = λ run has. returns_here has.0 (next_in_time run) refl refl refl refl
            (kept_on {s = configuration (setting k) (begun k)} {after = d.cells} {later = d.queues} may.kept
            (record {
              long = known.now.taken.same.long;
              touched = known.now.taken.same.touched;
              queued = known.now.taken.same.queued;
            })
            (λ location read.
            agree location read
            ∙ known.agree location
            (reads_more (storage k.app) (AtPriority k.threshold) (opened (setting k) (frame k) x k.threshold) []
            location
            read)
            ∙ known.now.taken.agree location read)).represents;
      }))

  -- what is told where the first message is due
  abbrev pub IsDue : Words → Type 0
  IsDue w =
      (mask time other : ℕ) (d : Took) (known : Known k d) → 0 < length known.now.represents.heap
      → S (setting k) (Now (frame k)
      (in_section k d 10 (k.first + 18) d.cells
      (due_rest k.app (arming_of_entry k.app (slice_index d.cells) (foremost known)) d.us))
      (words (judged_words w mask time (length known.now.represents.heap) (armed_place k.app (foremost known))
      (foremost_instant known) other)))

  -- After the clock it is told within 6 steps more whether it is, or none is.
  judges : {d : Took} (known : Known k d) (w : Words) (mask time : ℕ) → IsDue w
      → Straight (setting k) (frame k) (drop 4 (due_lines (queue_of k.app) 0 k.threshold (k.first + 10) (k.first + 18)))
      (in_section k d 4 (steps_and 4 k.first) d.cells (clock_rest k.app time d.us))
      (words (record w { mask = mask; one = 1; two = 2; answer = time }))
  judges {d = d} known w mask time dues =
      let s = known.now.represents in
      let n : ℕ = length s.heap in
      let x = section.Timer in
      let columns : Columns (setting k) (queue_of k.app) (opened (setting k) (frame k) x k.threshold ∷ []) d.cells =
      columns_now known.now refl in
      loads n (reads_open (count_open columns) (represented_count s))
      (elim (cases_lt 0 n) [
        | inr most ↦
            jumps_off (omega arith)
            (rest_is (idle_rest k.app d.us) (none_due known time (omega arith))
            (idles known 6 (judged_words w mask time n w.place w.instant w.other) (omega arith) refl))
        | inl some ↦
            (let instant : ℕ = foremost_instant known in
            let row : ℕ = armed_place k.app (foremost known) in
            let none : heap_of (queue_of k.app) ≡ heap_of (queue_of k.app) + 0 = omega arith in
            stays some
            (loads row
            (reads_open (first_open columns (omega (arith, some, s.arranged.long, s.room)))
            (ap (slice_index d.cells) none ∙ represented_column s 0 some))
            (loads_at row instant refl (reads_open (instant_open columns (row_of s 0 some)) refl)
            (calculates (number_of (nat_lt time instant)) refl
            (elim (cases_lt time instant) [
              | inl less ↦
                  (let is : number_of (nat_lt time instant) ≡ 1 = ap number_of (lt-ltb time instant less) in
                  stays (omega (arith, is))
                  (ends (at_here (k.first + 10) (omega arith)
                  (rest_is (idle_rest k.app d.us) (decides known some time (lt-leb instant time less))
                  (idles known 10
                  (judged_words w mask time n row instant (number_of (nat_lt time instant))) (omega arith) refl)))))
              | inr most ↦
                  jumps_off (ap number_of (le-ltb time instant most))
                  (rest_is (due_rest k.app (arming_of_entry k.app (slice_index d.cells) (foremost known)) d.us)
                  (decides known some time (le-leb instant time most))
                  (dues mask time (number_of (nat_lt time instant)) d known some))
            ])))))
      ])

  -- The first message is due, or the handler returns.
  pub judges_stand : (w : Words) → IsDue w → S (setting k) (Now (frame k) (begun k) (words w))
  judges_stand w dues =
      let x = section.Timer in
      let front : HasCodeAt k.code k.first (due_lines (queue_of k.app) 0 k.threshold (k.first + 10) (k.first + 18)) =
      code_first k.code 10 k.first (timer_code k.app k.threshold k.first) may.code in
      run_stands {f = frame k} {k = 10} (begun k) w (due_lines (queue_of k.app) 0 k.threshold (k.first + 10)
      (k.first + 18))
      (record { time = (omega arith, (omega arith, tt)); saves = saves_below (frame k) [] tt }) (omega arith)
      (and_both _ _ (enter_fits x (queue_of k.app).guard k.threshold 9 24 9) refl)
      (front.0 ∙ ap Some (sym (enter_placed x (queue_of k.app).guard k.threshold 9 0)), front.1)
      (enters {values = k.values} {rest = λ vs. does Clocks vs (clock_rest k.app)} (may_enter (may_open may))
      (omega (arith, may.least)) refl
      (λ mask vs cells queues taken.
      sets
      (sets
      (clocks refl
      (λ time us early agree.
      let d : Took = record { vs = vs; us = us; cells = cells; queues = queues } in
      let now : IsInside (inside k d) = record {
        may = may_open may;
        long = may.long;
        taken = taken;
        represents = timer_represented k.app (slice_index cells) (queues (Guarded x))
            (vs (Guarded x)) taken.represented;
      } in
      judges {d = d} (record { now = now; agree = agree }) w mask time dues)))))
