-- The code of a `reschedule_after`: the message of the handle gets another instant and the next number and goes up or
-- down from where it stands, or there is none.
use Rattle.rt_gen_queue.proofs.Vocabulary.{Clocks, Entry, Guarded, HasCodeAt, Line, List, Moves, Rest, Values, act}
use Rattle.rt_gen_queue.proofs.Vocabulary.{ap, arith, armed_messages, armed_place, at, does, few_messages}
use Rattle.rt_gen_queue.proofs.Vocabulary.{handle_section_cost, leave, leave_timer, length, min, line_with_note, refl}
use Rattle.rt_gen_queue.proofs.Vocabulary.{slice_index, subst, suc, sym, take, with_moved, ℕ, ◌*◌, ◌++◌, ◌+◌, ◌<◌, ◌^◌}
use Rattle.rt_gen_queue.proofs.Vocabulary.{◌∙◌, ◌∷◌, ◌≡◌, ◌≤◌}
use Rattle.rt_ids.specs.declared.ids.Section.TheVariants as section
use Rattle.rt_ids.specs.declared.limits.TheConstants.{LONGEST_DELAY}
use Rattle.rt_app.specs.Sending.{instant_after, move_actions}
use Rattle.rt_code.specs.declared.instr.Instr.TheVariants as instr
use Rattle.rt_code.specs.declared.instr.Note.TheVariants as note
use Rattle.rt_gen_queue.proofs.Layer.{Here, Now, S, copies, ends, jumps, moved, sets, writes_open}
use Rattle.rt_gen_queue.proofs.Numbers.{steps_and}
use Rattle.rt_gen_timer.proofs.{Alone.instant_in, Alone.number_in, Comparing.Hand, Comparing.LoopEnd}
use Rattle.rt_gen_timer.proofs.{Lasting.last_alone}
use Rattle.rt_gen_timer.proofs.{Marking.moves, Sifting.sinking, Represented.few_armings, Represented.row_of}
use Rattle.rt_gen_timer.proofs.Acting.{code_first, code_part, heap_open, run_stands, sooner}
use Rattle.rt_gen_timer.proofs.Calling.{AgreeInside, CallBegins, Call, at_work, call_of, columns_now, entries, f}
use Rattle.rt_gen_timer.proofs.Calling.{leaving_code, leaving_fits, on_window, settles, stands_called, task_of}
use Rattle.rt_gen_timer.proofs.Delaying.{at_address, delayed, time_stands}
use Rattle.rt_gen_timer.proofs.Hollow.{IsBeside, beside_more, beside_one_position, hollow_filled}
use Rattle.rt_gen_timer.proofs.Postponing.{IsAgain, MayMove, again_hole, again_hollow, again_stands, are, is_row}
use Rattle.rt_gen_timer.proofs.Postponing.{last_long, represented_moved}
use Rattle.rt_gen_timer.proofs.Seeking.{IsSeen, MaySeek, Taken, runs_seen, seeks, seen, seen_words}
use Rattle.rt_gen_timer.proofs.Settling.{IsSettled, MaySettle, reach_enough, settles_stand}
use Rattle.rt_gen_timer.proofs.Window.{Scratch, Words, scratch_of, words}
use Rattle.rt_gen_timer.specs.{TimerCalls.MovesStand, TimerCalls.handle_steps, declared.queue.TimerQueue.TimerQueue}
use Rattle.rt_gen_timer.specs.TimerCode.{armed_task, move_code, queue_of}
use Rattle.rt_gen_timer.specs.TimerLines.{alarm_lines, answer_lines, heap_of, put_off_lines}

-- the message of a handle is to be put to another instant
record AsksMove (c : Call) (delay handle : ℕ) (h : Here) : Type 0 where
  pub call : CallBegins c (handle_steps c.z.app) (move_code c.z.app c.task c.threshold c.slot h.at)
      (move_actions c.z.app (handle_section_cost c.z.app) delay c.task handle (c.rest 0) (c.rest 1)) h
  pub delay_is : slice_index h.slots c.slot ≡ delay
  pub shown : slice_index h.slots (suc c.slot) ≡ handle

module _ {c : Call} {delay handle : ℕ} {h : Here} (k : AsksMove c delay handle h) where
  open c use {z, task, threshold, slot, rest}
  open c.z use {app, code}
  open k.call use {may, has, on}

  abbrev q : TimerQueue
  q = queue_of app

  -- the lines, as they stand; and by the window the note and the alarm, and those after the section
  abbrev all : List Line
  all = move_code app task threshold slot h.at

  abbrev put_off : List Line
  put_off = put_off_lines q slot (armed_task app task) (h.at + 17)

  put_off_code : HasCodeAt code (h.at + 17) put_off
  put_off_code = code_part code h.at all 17 59 has

  abbrev note_lines : List Line
  note_lines = line_with_note (instr.StoreAt (heap_of q) 6 4) (note.Move task 1 10) ∷ alarm_lines q 0 (h.at + 76)

  abbrev none_lines : List Line
  none_lines = answer_lines q 0 0 (h.at + 87)

  -- what is left to do where a message has the handle
  abbrev moves_then : ℕ → Rest
  moves_then instant = act (Moves task handle instant) (leave_timer app (rest 0))

  abbrev clocked : Rest
  clocked vs = does Clocks vs (λ time. moves_then (instant_after app time delay))

  abbrev seek : MaySeek c h (record { handle = handle; slot = 1; missing = 85; found = clocked })
  seek = record {
    may = may;
    code = code_first code 17 h.at all has;
    none = code_part code h.at all 85 2 has;
    known = refl;
    shown = λ mask n hole place other. k.shown;
    is = k.call.is;
  }

  module _ {o : Taken} {done j : ℕ} (is : IsSeen seek o done j) where
    abbrev e : Entry
    e = at is.now.represents.heap j

    abbrev row : ℕ
    row = armed_place app e

    abbrev size : ℕ
    size = length is.now.represents.heap

    abbrev armings : ℕ
    armings = is.now.represents.timed.given + is.now.represents.timed.moved

    armings_few : armings < 2 ^ 31
    armings_few = few_armings is.now.represents is.now.taken.few

    few_sizes : size ≤ armed_messages app
    few_sizes = omega (arith, is.now.represents.arranged.long, is.now.represents.room)

    small_sizes : armed_messages app ≤ 16 * 64
    small_sizes = few_messages app may.facts.accepted

    abbrev put : MayMove app (entries (seen seek o)) (o.values (Guarded section.Timer)) o.cells j task handle
    put = record {
      mono = may.timed;
      represents = is.now.represents;
      few = is.now.taken.few;
      within = is.inside;
      found = is.found;
    }

    -- inside, with this left to do
    abbrev here : (begin to : ℕ) → List ℕ → Rest → Values → Here
    here begin to mid rest us = at_work (seen seek o) begin to h.places mid o.queues (rest us)

    -- The loops begin in time, with the message in hand, and know what is in the queue.
    record HasBegun (v : Words) (begin : ℕ) (us : Values) : Type 0 where
      pub counted : v.count ≡ size
      pub shown : v.first ≡ handle
      pub early : begin ≤ h.done + (6 * armed_messages app + 24)
      pub agree : AgreeInside (seen seek o) us

    module _ {mid : List ℕ} (again : IsAgain q row (instant_in app mid e) armings o.cells mid) where
      abbrev hand : Hand
      hand = record {
        queue = q;
        row = armed_place app;
        instant = instant_in app mid;
        arming = number_in app mid;
        size = size;
        hand = e;
      }

      -- the words and the job where the loops begin and have left a hole
      abbrev left_words : Words → Scratch → ℕ → Words
      left_words v s hole = sinking hand (record v { hand = row }) s hole

      abbrev at_loops : ℕ → Values → Here
      at_loops begin us = here begin (h.at + 17 + 12) mid (moves_then (instant_in app mid e)) us

      -- the note, the alarm, the close and the answer
      last_stand : {b : LoopEnd} {begin : ℕ} {us : Values} (v : Words) (s : Scratch)
          → IsSettled hand size size j (at_loops begin us) is.now.represents.heap b → HasBegun v begin us
          → S z (Now (f may) (here b.done (h.at + 75) b.cells (moves_then (instant_in app mid e)) us)
          (words (left_words v s b.hole)))
      last_stand {b = b} {us = us} v s settled begins =
          let instant : ℕ = instant_in app mid e in
          let room : b.hole < armed_messages app = omega (arith, settled.hollow.within, few_sizes) in
          let columns = columns_now is.now (settled.beside.long ∙ again.long) in
          run_stands (here b.done (h.at + 75) b.cells (moves_then instant) us) (left_words v s b.hole)
          (note_lines ++ leave app section.Timer threshold 9 ∷ none_lines) (runs_seen seek)
          (omega (arith, begins.early, settled.within, few_sizes))
          (leaving_fits app threshold note_lines none_lines refl refl)
          (leaving_code z (f may) threshold (h.at + 75) note_lines none_lines (code_part code h.at all 75 10 has))
          (moves q (left_words v s b.hole) begins.shown (writes_open (heap_open columns room))
          (record { opens = columns.opens; stands = is.found.parts; of_task = is.of_task }) refl
          (λ left us2 one agree2.
          let beside : IsBeside q mid left = beside_more settled.beside (beside_one_position q room one) in
          at_address (h.at + 76) (omega arith)
          (settles is.now (with_moved task handle instant) (left_words v s b.hole)
          (record {
            represents = represented_moved put again beside (λ i less. hollow_filled e settled.hollow one i less)
                settled.settled;
            few = omega (arith, armings_few);
            alone = last_alone (are put) (is_row put again) beside may.timed;
            long = beside.long ∙ again.long;
          })
          (λ location read. agree2 location read ∙ begins.agree location read) (last_long put)
          (λ last other us3 soon own later.
          sets
          (jumps
          (on 0 _
          (record {
            small = omega arith;
            answered = refl;
            in_time = omega (arith, soon, begins.early, settled.within, few_sizes);
            own = own;
            agree = later;
          })))))))

      -- The loops: the message in the hand goes up or down from where it stands.
      loops_stand : {begin : ℕ} {us : Values} (v : Words) (s : Scratch) → HasBegun v begin us
          → S z (Now (f may) (at_loops begin us) (words (left_words v s j)))
      loops_stand {begin = begin} {us = us} v s begins =
          let ready : MaySettle z (f may) hand size size j (at_loops begin us) is.now.represents.heap = record {
            to = h.at + 17 + 27;
            rise = code_part code (h.at + 17) put_off 12 15 put_off_code;
            sink = code_part code (h.at + 17) put_off 27 31 put_off_code;
            next = omega arith;
            runs = sooner (runs_seen seek) (omega (arith, begins.early, few_sizes));
            reach = omega (arith, reach_enough size, is.inside);
            leads = reach_enough size;
            few = omega (arith, few_sizes, small_sizes);
            small = omega (arith, again.numbers, armings_few);
            columns = columns_now is.now again.long;
            hollow = again_hollow put again;
            hole = again_hole put again;
          } in
          settles_stand (record v { hand = row }) s ready
          (λ b t settled. moved b.done (h.at + 75) refl (omega arith) (last_stand v t settled begins))

    -- From where the message is found: the time, the delay, and a new number.
    found_stands : (x r : ℕ) → S z (Now (f may) (here done (h.at + 17) o.cells clocked o.values)
        (words (seen_words seek is x r)))
    found_stands x r =
        let v : Words = record (seen_words seek is x r) { hand = row } in
        run_stands (here done (h.at + 17) o.cells clocked o.values) (seen_words seek is x r)
        (take 12 (put_off_lines q 0 (armed_task app task) (h.at + 17))) (runs_seen seek) (omega (arith, is.early)) refl
        (code_first code 12 (h.at + 17) put_off put_off_code)
        (copies
        (at_address (h.at + 17 + 1) (omega arith)
        (time_stands q v refl
        (λ time read right us early soon agree.
        let v2 : Words = delayed v time right in
        again_stands v2 (columns_now is.now refl) is.now.represents.armings (omega (arith, armings_few))
        (row_of is.now.represents j is.inside) refl
        (λ mid again.
        let J : ℕ = instant_in app mid e in
        let v3 : Words = record v2 { arming = armings; other = armings + 1 } in
        let told : v2.instant ≡ instant_after app time delay = ap (λ d. time + min d LONGEST_DELAY) k.delay_is in
        let goes : (n k a : ℕ) → Type 0 =
        λ n i a. S z (Now (f may) (here (steps_and 5 read) (h.at + 17 + 12) mid (moves_then n) us)
        (words (record v3 { instant = i; arming = a }))) in
        ends
        (moved (steps_and 5 read) (h.at + 17 + 12) refl (omega arith)
        (subst (λ n. goes n v2.instant armings) told
        (subst (λ n. goes n n armings) again.instants
        (subst (λ a. goes J J a) again.numbers
        (loops_stand (subst (λ n. IsAgain q row n armings o.cells mid) (sym again.instants) again) v3 (scratch_of v3)
        (record { counted = refl; shown = k.shown; early = omega (arith, soon, is.early); agree = agree })))))))))))

  -- The call is correct where it is correct after it.
  move_goes : S z h
  move_goes =
      on_window may
      (seeks seek (λ o done j x r is. found_stands is x r)
      (λ b called. moved b.done (h.at + 87) refl (omega arith) (on 1 b called)))

-- the code of a `reschedule_after` stands for its actions
pub moves_all_stand : MovesStand
moves_all_stand c named timed a n =
    let second : suc c.slot ≡ c.slot + 1 = omega arith in
    let doing : Rest =
    move_actions c.app (handle_section_cost c.app) a.delay c.task a.handle (c.rest 0) (c.rest 1) in
    stands_called (call_of c) c.configuration {doing = doing} (task_of c named) timed a.may a.has a.is
    (λ until call.
    move_goes (record {
      call = call;
      delay_is = a.delayed;
      shown = ap (slice_index c.configuration.slots) second ∙ a.shown;
    }))
