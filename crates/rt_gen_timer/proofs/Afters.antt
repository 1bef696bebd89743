-- The code of a whole `spawn_after`: a place is taken and filled, and in the section of the timer queue its message is
-- armed, with the handle for an answer; or none is left, and the answer is 0.
use Rattle.rt_gen_queue.proofs.Vocabulary.{Arms, Content, Entry, Guarded, HasCodeAt, OpenSection, Location, Home}
use Rattle.rt_gen_queue.proofs.Vocabulary.{IsTimedPlace, Leaves, Line, List, Marked, MayLoad, Message, FindsFull}
use Rattle.rt_gen_queue.proofs.Vocabulary.{Rest, Section, Some, TakesOver, Timed, Values, [], act}
use Rattle.rt_gen_queue.proofs.Vocabulary.{act_all, all_weaker, and_both, ap, arguments_of, arith, arm_actions}
use Rattle.rt_gen_queue.proofs.Vocabulary.{capacities_before, armed_messages, armed_place, capacity_of, count_more}
use Rattle.rt_gen_queue.proofs.Vocabulary.{drop}
use Rattle.rt_gen_queue.proofs.Vocabulary.{enter, few_before, few_messages, fill_code, guard_of, is_armed, is_software}
use Rattle.rt_gen_queue.proofs.Vocabulary.{is_some_and, kind_at, leave, leave_timer, length, length-append, length_push}
use Rattle.rt_gen_queue.proofs.Vocabulary.{message_at, message_word, mine, line_with_note, one_itself, spend_step}
use Rattle.rt_gen_queue.proofs.Vocabulary.{plain}
use Rattle.rt_gen_queue.proofs.Vocabulary.{queued_more, reads_more, refl, slice_get, slice_index, storage, subst, suc}
use Rattle.rt_gen_queue.proofs.Vocabulary.{sym, take, take-append-le, place_code, place_actions, timer_content, true}
use Rattle.rt_gen_queue.proofs.Vocabulary.{with_armed, ℕ}
use Rattle.rt_gen_queue.proofs.Vocabulary.{◌&&◌, ◌++◌, ◌+◌, ◌<◌, ◌^◌, ◌∙◌, ◌∷◌, ◌≡◌, ◌≤◌}
use Rattle.rt_ids.specs.declared.ids.Section.TheVariants as section
use Rattle.rt_code.specs.declared.instr.Instr.TheVariants as instr
use Rattle.rt_code.specs.declared.instr.Note.TheVariants as note
use Rattle.rt_gen_queue.proofs.{Handing.refuses, Numbers.steps_and, Numbers.steps_are, Queues.message_alike}
use Rattle.rt_gen_queue.proofs.Entering.{MayEnter, enter_fits, enter_placed, enters, leave_fits, leave_placed, leaves}
use Rattle.rt_gen_queue.proofs.Entering.{opened, saves_below, saves_inside}
use Rattle.rt_gen_queue.proofs.Facts.{arguments, few_arguments, few_free, free_top, place_of, small as small_words}
use Rattle.rt_gen_queue.proofs.Granting.{HasTaken, MayTake, at_full, take_begins}
use Rattle.rt_gen_queue.proofs.Layer.{Frame, Here, InTime, Now, S, Straight, all_fit, ends, fits, inner}
use Rattle.rt_gen_queue.proofs.Layer.{inner_window, jumps, moved, read_behind, configuration, writes_open}
use Rattle.rt_gen_queue.proofs.Owning.{home_as, is_inside, nobody_keeps, reads_inside, timer_represented}
use Rattle.rt_gen_queue.proofs.Placing.{code_behind, code_front, fill_long}
use Rattle.rt_gen_queue.proofs.Storing.{Filled, fill_stands, message_is, own_filled}
use Rattle.rt_gen_queue.proofs.Words.{Arguments, Scratch as Work, listed, words as nine_words}
use Rattle.rt_gen_timer.proofs.{Alone.instant_in, Alone.number_in, Alone.timed_row, Comparing.Hand, Comparing.LoopEnd}
use Rattle.rt_gen_timer.proofs.{Comparing.in_hand, Delaying.at_address, Delaying.delayed, Delaying.time_stands}
use Rattle.rt_gen_timer.proofs.{Lasting.last_alone, Marking.arms, Moves.settled_risen, Opening.MayOpen}
use Rattle.rt_gen_timer.proofs.{Opening.may_enter, Order.above_less, Rowing.HasRow, Rowing.row_stands, Rowing.with_row}
use Rattle.rt_gen_timer.proofs.{Sifting.IsReady, Sifting.IsRisen, Sifting.rises_stand, Represented.few_armings}
use Rattle.rt_gen_timer.proofs.{Turning.AreTurns, Turning.arm_steps, Turning.turns_for}
use Rattle.rt_gen_timer.proofs.Acting.{Lasting, Runs, code_first, code_part, heap_open, run_stands, sooner}
use Rattle.rt_gen_timer.proofs.Calling.{AgreeInside, CallBegins, Call, HasCalled, Inside, IsInside, Left, at_work}
use Rattle.rt_gen_timer.proofs.Calling.{behind_call, call_of, columns_now, entries, f, leaving_code, leaving_fits}
use Rattle.rt_gen_timer.proofs.Calling.{on_window, queue_now, settles, stands_called, task_of, w}
use Rattle.rt_gen_timer.proofs.Hollow.{IsBeside, beside_more, beside_one_position, hollow_filled}
use Rattle.rt_gen_timer.proofs.Pushing.{MayPush, are, armings_before, counts, hole_begins, hollow_begins, is_row}
use Rattle.rt_gen_timer.proofs.Pushing.{longer, room, size, represented_more}
use Rattle.rt_gen_timer.proofs.Window.{Scratch, Words, scratch_of, words}
use Rattle.rt_gen_timer.specs.TimerCalls.{AftersStand, MayUsePlaces, after_steps}
use Rattle.rt_gen_timer.specs.TimerCode.{after_code, armed_task, queue_of}
use Rattle.rt_gen_timer.specs.TimerLines.{alarm_lines, arm_lines, full_lines, heap_of, row_lines}
use Rattle.rt_gen_timer.specs.declared.queue.TimerQueue.{TimerQueue}

-- the nine of the words that a spawn's code works in, and these with others in them
abbrev arguments_in : Words → Arguments
arguments_in v = record { first = v.first; second = v.second; third = v.third; fourth = v.hand }

abbrev work_in : Words → Work
work_in v = record { count = v.count; index = v.hole; word = v.place; number = v.work; mask = v.mask }

abbrev worked : Words → Work → Words
worked v r = record v { count = r.count; hole = r.index; place = r.word; work = r.number; mask = r.mask }

-- a message is to be sent later
record SendsLater (c : Call) (cost delay : ℕ) (args : List ℕ) (h : Here) : Type 0 where
  pub call : CallBegins c (after_steps c.z.app) (after_code c.z.app c.task c.threshold c.slot h.at)
      (place_actions c.z.app c.task (arm_actions c.z.app cost delay (record { task = c.task; args = args }) c.rest)
      (c.rest 0)) h
  pub armed : is_armed c.z.app c.task ≡ true
  pub turns : AreTurns c.z.app cost
  pub places : MayUsePlaces c.z.app c.z.who c.task (configuration c.z h)
  pub delay_is : slice_index h.slots c.slot ≡ delay
  pub args_are : take c.t.args (drop (suc c.slot) h.slots) ≡ args

module _ {c : Call} {cost delay : ℕ} {args : List ℕ} {h : Here} (k : SendsLater c cost delay args h) where
  open c use {z, task, t, threshold, slot, rest, values}
  open c.z use {app, code, who}
  open k.call use {may, has, on}

  abbrev q : TimerQueue
  q = queue_of app

  abbrev args_of : ℕ
  args_of = arguments_of app task

  abbrev full : ℕ
  full = h.at + (59 + args_of)

  abbrev place_section : Section
  place_section = section.Free task

  abbrev message : Message
  message = record { task = task; args = args }

  few_args : (t.args ≤ 4) × (args_of ≤ 4)
  few_args =
      let few = few_arguments app task t may.facts in (few, omega (arith, arguments app task t may.facts, few))

  -- the lines, and their parts; those that arm the message by the first slot of the window
  abbrev lines : List Line
  lines = after_code app task threshold slot h.at

  abbrev filling : List Line
  filling = fill_code app task (slot + 1)

  abbrev arming : ℕ → List Line
  arming first = arm_lines q first threshold (armed_task app task) (h.at + (12 + args_of))

  abbrev ending : List Line
  ending = full_lines q slot threshold (armed_task app task) (full + 2)

  has_fill : HasCodeAt code (h.at + 8) (filling ++ (arming slot ++ ending))
  has_fill =
      code_behind code h.at (h.at + 8) (place_code app task threshold (slot + 1) full)
      (filling ++ (arming slot ++ ending))
      refl has

  has_arm : HasCodeAt code (h.at + (12 + args_of)) (arming slot ++ ending)
  has_arm =
      code_behind code (h.at + 8) (h.at + (12 + args_of)) filling (arming slot ++ ending)
      (omega (arith, fill_long app task (slot + 1))) has_fill

  arming_has : HasCodeAt code (h.at + (12 + args_of)) (arming slot)
  arming_has = code_front code (h.at + (12 + args_of)) (arming slot) ending has_arm

  has_end : HasCodeAt code (h.at + (12 + args_of) + 46) ending
  has_end =
      code_behind code (h.at + (12 + args_of)) (h.at + (12 + args_of) + 46) (arming slot) ending (omega arith) has_arm

  has_full : HasCodeAt code full (drop 1 ending)
  has_full =
      code_behind code (h.at + (12 + args_of) + 46) full (take 1 ending) (drop 1 ending) (omega arith) has_end

  ends_at : h.at + length lines ≡ full + 2
  ends_at = omega (arith, length-append filling (arming slot ++ ending), fill_long app task (slot + 1))

  -- there is time for the call
  runs_on : Runs (f may) (h.done + after_steps app) h
  runs_on = record { time = may.time; saves = saves_below (f may) h.held may.masks }

  lasts : (n : ℕ) → n ≤ after_steps app → InTime (h.done + n) h
  lasts n less = (sooner {j = h.done + n} runs_on (omega (arith, less))).time

  -- the window of the nine
  abbrev nine : Words → Frame 9 8
  nine v = inner (f may) (v.answer ∷ []) (drop 10 (words v))

  from_nine : (v : Words) (r : Work) (g : Here) → S z (Now (f may) g (words (worked v r)))
      → S z (Now (nine v) g (nine_words (arguments_in v) r))
  from_nine v r g correct =
      subst (λ (slots : List ℕ). S z (record g { slots = slots }))
      (sym (inner_window (f may) (v.answer ∷ []) (drop 10 (words v)) (nine_words (arguments_in v) r))) correct

  enter_places : {size mask : ℕ} (g : Frame size mask) → mask < size → slot ≤ g.slot
      → MayEnter z g h place_section threshold
  enter_places g room above = record {
    room = room;
    masks = all_weaker (λ d. d < slot) (λ d. d < g.slot) (λ d less. omega (arith, less)) _ may.masks;
    off = may.off;
    top = free_top app task t may.facts;
    within = k.places.within;
    closed = k.places.closed;
    nobody = nobody_keeps app who who place_section tt;
  }

  abbrev may_take : MayTake z (nine (w may)) h task threshold full t
  may_take = record {
    facts = may.facts;
    code = code_front code h.at (place_code app task threshold (slot + 1) full) (filling
        ++ (arming slot ++ ending)) has;
    time = lasts 8 (omega arith);
    long = may.cells;
    enter = enter_places (nine (w may)) (omega arith) (omega arith);
  }

  -- no place is left: the section closes, and the answer is 0
  none_stands : (r : Work) (cells : List ℕ) (queues : Location → List Entry) (us : Values)
      → TakesOver (storage app) who place_section (spend_step (configuration z h)) values us cells queues
      → S z (Now (nine (w may)) (at_full h (opened z (nine (w may)) place_section threshold) full cells queues
      (act_all (FindsFull task ∷ Leaves place_section ∷ []) (rest 0) us)) (nine_words (arguments_in (w may)) r))
  none_stands r cells queues us taken =
      let x : Section = place_section in
      let o : OpenSection = opened z (f may) x threshold in
      let e : slot + 9 ≡ slot + 1 + 8 = omega arith in
      let g : OpenSection → Here =
      λ o. at_full h o full cells queues (act_all (FindsFull task ∷ Leaves x ∷ []) (rest 0) us) in
      let all = lasts 8 (omega arith) in
      subst (λ n. S z (Now (nine (w may)) (g (record { section = x; kind = kind_at app x threshold n }))
      (nine_words (arguments_in (w may)) r))) e
      (from_nine (w may) r (g o)
      (run_stands {f = f may} {k = h.done + 8} (g o) (worked (w may) r)
      (drop 1 (full_lines q 0 threshold (armed_task app task) (full + 2)))
      (record {
        time = (all.0, (omega arith, all.1));
        saves = saves_inside (enter_places (f may) (omega arith) (omega arith));
      }) (omega arith) (ap (λ b. b && true) (leave_fits x (guard_of app x) threshold 9 24 9))
      (has_full.0, (has_full.1.0 ∙ ap Some (sym (leave_placed x (guard_of app x) threshold 9 slot)), tt))
      (refuses (is_inside app who h.held o x refl) refl
      (λ us2 agree.
      leaves threshold refl refl refl
      (subst (λ (c : Content). (storage app).Represents (Guarded x) (slice_index cells) (queues (Guarded x)) c)
      (sym (agree (Guarded x) (reads_inside app who h.held o x refl))) taken.represented)
      (λ us3 later.
      ends
      (moved (steps_and 5 h.done) (h.at + length lines) refl (omega (arith, ends_at))
      (on 0 _
      (record {
        small = omega arith;
        answered = refl;
        in_time = omega arith;
        own = record { long = taken.same.long; touched = taken.same.touched; queued = taken.same.queued };
        agree = λ location read.
            later location read ∙ agree location (reads_more (storage app) who o h.held location read)
            ∙ taken.agree location read;
      }))))))))

  module _ {e : Entry} {cells : List ℕ} {queues : Location → List Entry} {us : Values}
      (taken : HasTaken z h task values e cells queues us) where
    -- a place of the task is one of a task whose messages may be armed
    timed_place : IsTimedPlace app e
    timed_place = (
      ap (is_armed app) taken.of_task ∙ k.armed,
      ap (λ n. is_some_and is_software (slice_get app.tasks n)) taken.of_task
          ∙ ap (is_some_and is_software) may.facts.at ∙ may.facts.software,
      subst (λ n. e.place < capacity_of app n) (sym taken.of_task) taken.place,
    )

    word_small : message_word e < 2 ^ 32
    word_small =
        let few = few_free app task t may.facts in
        omega (arith, taken.of_task, taken.place, few, small_words app task t may.facts)

    args_stored : take t.args (listed (arguments_in (w may))) ≡ args
    args_stored =
        sym (take-append-le t.args (listed (arguments_in (w may))) (drop (suc slot + 4) h.slots) few_args.0)
        ∙ ap (take t.args) (sym (read_behind h.slots (suc slot) 4 (omega (arith, may.frame)))) ∙ k.args_are

    -- with the place in the hands
    abbrev holding : (done at : ℕ) → List ℕ → Here
    holding done at left = record h {
      done = done;
      places = e ∷ h.places;
      at = at;
      cells = left;
      queues = queues;
      rest = arm_actions app cost delay message rest us;
    }

    module _ {left : List ℕ} (filled : Filled z task e (listed (arguments_in (w may))) 0 cells left) where
      -- and with the arguments of the message stored
      abbrev g : Here
      g = holding (h.done + (12 + args_of)) (h.at + (12 + args_of)) left

      opens : MayOpen z (f may) threshold g
      opens = record {
        accepted = may.facts.accepted;
        timed = may.timed;
        masks = may.masks;
        off = may.off;
        within = may.within;
        closed = may.closed;
      }

      -- Once it is armed its handle is the answer, and a jump leads past all lines.
      armed_ends : (handle : ℕ) (b : Left) → HasCalled z g us (arm_steps k.turns.turns) handle b
          → S z (Now (f may) (behind_call h (g.at + 46) (rest handle) b) (words b.words))
      armed_ends handle b armed =
          run_stands (behind_call h (g.at + 46) (rest handle) b) b.words (plain (instr.Jump (full + 2)) ∷ []) runs_on
          (omega (arith, armed.in_time, k.turns.few, few_args)) refl (has_end.0, tt)
          (jumps
          (moved (suc b.done) (h.at + length lines) refl (omega (arith, ends_at))
          (on handle _
          (record {
            small = armed.small;
            answered = armed.answered;
            in_time = omega (arith, armed.in_time, k.turns.few, few_args);
            own = own_filled h taken.none taken.own filled
                (record { long = armed.own.long; touched = armed.own.touched; queued = armed.own.queued });
            agree = λ location read. armed.agree location read ∙ taken.agree location read;
          }))))

      module _ {ws : Values} {inside : List ℕ} {queued : Location → List Entry}
          (took : TakesOver (storage app) who section.Timer (spend_step (configuration z g)) us ws inside queued) where
        abbrev i : Inside
        i = record {
          z = z;
          f = f may;
          threshold = threshold;
          cost = cost;
          h = g;
          before = us;
          cells = inside;
          queues = queued;
          values = ws;
        }

        now : IsInside i
        now = record {
          may = opens;
          long = filled.long ∙ taken.own.long ∙ may.cells;
          taken = took;
          represents = timer_represented app (slice_index inside) (entries i)
              (ws (Guarded section.Timer)) took.represented;
        }

        -- its arguments are as they were stored
        message_inside : message_at app (slice_index inside) e ≡ message
        message_inside =
            let some : 0 < mine (spend_step (configuration z g)) e = omega
            (arith, count_more e e h.places, one_itself e) in
            message_alike app t.priority (slice_index inside) (slice_index left) e
            (place_of app task t may.facts e taken.of_task taken.place)
            (λ c is.
            took.same.touched c
            (subst (λ (home : Home). MayLoad (storage app) who (spend_step (configuration z g)) home)
            (sym (home_as app c ∙ is))
            some))
            ∙ message_is may.facts taken.of_task (omega arith) filled
            ∙ ap (λ ws. record { task = task; args = ws }) args_stored

        abbrev push : MayPush app (entries i) e (ws (Guarded section.Timer)) message inside
        push = record {
          accepted = may.facts.accepted;
          mono = may.timed;
          represents = now.represents;
          few = took.few;
          place = timed_place;
          once = λ y.
              let more = queued_more queued y (record { section = section.Timer; kind = Marked }) h.held in
              omega (arith, took.once y, more, count_more y e (entries i), count_more y e h.places);
          message = message_inside;
        }

        runs : Lasting (f may) (g.done + arm_steps k.turns.turns)
            (opened z (f may) section.Timer threshold ∷ h.held) (h.until ∷ (g.done + cost) ∷ h.deadlines)
        runs =
            let all = sooner {j = g.done + arm_steps k.turns.turns} runs_on (omega (arith, k.turns.few, few_args)) in
            record {
              time = (all.time.0, (omega (arith, k.turns.enough), all.time.1));
              saves = saves_inside (may_enter opens);
            }

        armings_few : armings_before push < 2 ^ 31
        armings_few = few_armings push.represents push.few

        -- what is left to do where the message is armed
        abbrev arms_then : ℕ → Rest
        arms_then instant =
            act (Arms instant message)
            (λ vs. leave_timer app (rest (timer_content (vs (Guarded section.Timer))).given) vs)

        -- inside, with that left to do
        abbrev here : (done at : ℕ) → List ℕ → ℕ → Values → Here
        here done at mid instant vs = at_work i done at (e ∷ h.places) mid queued (arms_then instant vs)

        -- where the message has its row, for an instant
        abbrev IsRow : ℕ → List ℕ → Type 0
        IsRow instant mid =
            HasRow q (armed_place app e) instant (armings_before push) push.represents.timed.given
            (size push) inside mid

        abbrev rowed : Words → Words
        rowed v = with_row v (armed_place app e) (armings_before push) push.represents.timed.given (size push)

        -- The loop begins in time, and knows what is in the queue.
        record HasBegun (begin : ℕ) (vs : Values) : Type 0 where
          pub early : begin ≤ g.done + 23
          pub agree : AgreeInside i vs

        module _ {mid : List ℕ} (has : IsRow (instant_in app mid e) mid) where
          abbrev hand : Hand
          hand = record {
            queue = q;
            row = armed_place app;
            instant = instant_in app mid;
            arming = number_in app mid;
            size = size push + 1;
            hand = e;
          }

          abbrev in_loop : Words → Scratch → ℕ → Words
          in_loop v s hole = in_hand hand (rowed v) s hole

          abbrev note_lines : List Line
          note_lines = line_with_note (instr.StoreAt (heap_of q) 6 4) (note.Arm task 10) ∷ alarm_lines q 0 (g.at + 39)

          -- where the loop has left a hole
          last_stand : {b : LoopEnd} {begin : ℕ} {vs : Values} (v : Words) (s : Scratch)
              → IsRisen hand k.turns.turns (size push) (here begin (g.at + 23) mid (instant_in app mid e) vs)
              (longer push) b → HasBegun begin vs
              → S z (Now (f may) (here b.done (g.at + 38) b.cells (instant_in app mid e) vs)
              (words (in_loop v s b.hole)))
          last_stand {b = b} {vs = vs} v s risen begins =
              let instant : ℕ = instant_in app mid e in
              let place : b.hole < armed_messages app = omega (arith, risen.hollow.within, room push) in
              let columns = columns_now now (risen.beside.long ∙ has.long) in
              run_stands (here b.done (g.at + 38) b.cells instant vs) (in_loop v s b.hole)
              (note_lines ++ leave app section.Timer threshold 9 ∷ []) runs
              (omega (arith, begins.early, risen.within)) (leaving_fits app threshold note_lines [] refl refl)
              (leaving_code z (f may) threshold (g.at + 38) note_lines [] (code_part code g.at (arming slot) 38 8
              arming_has))
              (arms q (in_loop v s b.hole) (writes_open (heap_open columns place))
              (record { opens = columns.opens; hands = refl; of_task = (taken.of_task, refl) }) refl
              (λ after us2 one agree2.
              let beside : IsBeside q mid after = beside_more risen.beside (beside_one_position q place one) in
              let agrees : AgreeInside i us2 = λ location read. agree2 location read ∙ begins.agree location read in
              let armed : timer_content (us2 (Guarded section.Timer)) ≡ push.represents.timed =
              ap timer_content (queue_now now agrees) in
              at_address (g.at + 39) (omega arith)
              (settles now (with_armed instant message) (in_loop v s b.hole)
              (record {
                represents = represented_more push has beside
                    (λ j less. hollow_filled e risen.hollow one j less)
                    (settled_risen risen.risen
                    (λ j some less under. absurd (omega (arith, above_less j some, under, less))));
                few = omega (arith, armings_few);
                alone = last_alone (are push) (is_row push has) beside push.mono;
                long = beside.long ∙ has.long;
              }) agrees (omega (arith, length_push (entries i) e, push.represents.arranged.long))
              (λ last other us3 soon own later.
              ends
              (moved last (g.at + 46) refl (omega arith)
              (armed_ends (with_armed instant message (timer_content (us2 (Guarded section.Timer)))).given _
              (record {
                small = omega (arith, ap (λ (t : Timed). t.given) armed, armings_few);
                answered = sym (ap (λ (t : Timed). t.given + 1) armed);
                in_time = omega (arith, soon, begins.early, risen.within);
                own = own;
                agree = later;
              })))))))

          -- the loop upwards, from the last position
          rise_stands : {begin : ℕ} {vs : Values} (v : Words) (s : Scratch) → HasBegun begin vs
              → S z (Now (f may) (here begin (g.at + 23) mid (instant_in app mid e) vs)
              (words (in_loop v s (size push))))
          rise_stands {begin = begin} {vs = vs} v s begins =
              let ready : IsReady z (f may) hand k.turns.turns (size push)
              (here begin (g.at + 23) mid (instant_in app mid e) vs) (longer push) = record {
                code = code_part code g.at (arming slot) 23 15 arming_has;
                runs = sooner runs (omega (arith, begins.early));
                reach = omega (arith, room push, k.turns.reach);
                few = omega (arith, room push, few_messages app may.facts.accepted);
                small = omega (arith, has.numbers, armings_few);
                columns = columns_now now has.long;
                hollow = hollow_begins push has;
                hole = hole_begins push has;
              } in
              rises_stand (rowed v) s ready
              (λ b s risen. moved b.done (g.at + 38) refl (omega arith) (last_stand v s risen begins))

        -- the row is written first
        row_begins : {done : ℕ} {vs : Values} (v : Words) → v.place ≡ message_word e → done ≤ g.done + 7
            → AgreeInside i vs
            → Straight z (f may) (row_lines q 0 (armed_task app task)) (here done (g.at + 7) inside v.instant vs)
            (words v)
        row_begins {done = done} {vs = vs} v word early agree =
            let first : capacities_before app e.task ≡ capacities_before app task =
            ap (capacities_before app) taken.of_task in
            let before = few_before app may.facts.accepted task in
            row_stands v (armed_task app task) (columns_now now refl) (counts push) (timed_row app e timed_place)
            (omega (arith, first, before, word, taken.of_task)) (omega (arith, word, word_small))
            (λ mid has.
            let J : ℕ = instant_in app mid e in
            let goes : (n a : ℕ) → Type 0 =
            λ n a. S z (Now (f may) (here (steps_and 16 done) (g.at + 23) mid n vs)
            (words (record (rowed v) { instant = n; arming = a }))) in
            ends
            (moved (steps_and 16 done) (g.at + 23) refl (omega arith)
            (subst (λ n. goes n (armings_before push)) has.instants
            (subst (λ a. goes J a) has.numbers
            (rise_stands (subst (λ n. IsRow n mid) (sym has.instants) has) v (scratch_of (rowed v))
            (record { early = omega (arith, early); agree = agree }))))))

      -- It is armed, and the call ends.
      armed_stands : (r : Work)
          → S z (Now (f may) g (words (worked (w may) (record r { word = message_word e }))))
      armed_stands r =
          let v : Words = worked (w may) (record r { word = message_word e }) in
          let x = section.Timer in
          let has = code_first code 23 g.at (arming slot) arming_has in
          run_stands g v (take 23 (arming 0)) runs_on (omega (arith, few_args))
          (and_both (fits 24 9 (enter app x threshold 9).0) (all_fit 24 9 (drop 1 (take 23 (arming 0))))
          (enter_fits x (guard_of app x) threshold 9 24 9) refl)
          (has.0 ∙ ap Some (sym (enter_placed x (guard_of app x) threshold 9 slot)), has.1)
          (enters (may_enter opens) (omega (arith, k.turns.enough))
          (ap (λ d. arm_actions app cost d message rest us) (sym k.delay_is))
          (λ mask ws inside queued took.
          at_address (g.at + 1) (omega arith)
          (time_stands q (record v { mask = mask }) refl
          (λ time done right vs early soon agree.
          at_address (g.at + 7) (omega arith)
          (row_begins took (delayed (record v { mask = mask }) time right) refl (omega (arith, soon)) agree)))))

    -- its arguments are stored first
    granted_stands : (r : Work) → S z (Now (nine (w may)) (holding (steps_and 8 h.done) (steps_and 8 h.at) cells)
        (nine_words (arguments_in (w may)) (record r { word = e.place })))
    granted_stands r =
        let eight : h.at + 8 ≡ steps_and 8 h.at = omega arith in
        fill_stands {f = nine (w may)} {h = holding (steps_and 8 h.done) (steps_and 8 h.at) cells}
        (record {
          facts = may.facts;
          code = subst (λ a. HasCodeAt code a filling) eight
              (code_front code (h.at + 8) filling (arming slot ++ ending) has_fill);
          time = (sooner {j = steps_and 8 h.done + (4 + args_of)} runs_on (omega (arith, few_args))).time;
          saves = saves_below (nine (w may)) h.held
              (all_weaker (λ d. d < slot) (λ d. d < slot + 1) (λ d less. omega (arith, less)) _ may.masks);
          hands = record {
            of_task = taken.of_task;
            place = taken.place;
            some = omega (arith, count_more e e h.places, one_itself e);
            long = taken.own.long ∙ may.cells;
          };
        }) (arguments_in (w may)) r
        (λ r2 left filled.
        from_nine (w may) (record r2 { word = message_word e })
        (holding (steps_and (4 + args_of) (steps_and 8 h.done)) (steps_and (4 + args_of) (steps_and 8 h.at)) left)
        (moved (h.done + (12 + args_of)) (h.at + (12 + args_of))
        (omega (arith, steps_are (4 + args_of) (steps_and 8 h.done)))
        (omega (arith, steps_are (4 + args_of) (steps_and 8 h.at))) (armed_stands filled r2)))

  -- The call is correct where it is correct after it.
  after_goes : S z h
  after_goes =
      on_window may
      (subst (λ (slots : List ℕ). S z (record h { slots = slots }))
      (inner_window (f may) ((w may).answer ∷ []) (drop 10 (words (w may)))
      (nine_words (arguments_in (w may)) (work_in (w may))))
      (take_begins may_take (arguments_in (w may)) (work_in (w may)) k.call.is
      (λ e r cells queues us taken. granted_stands taken r) none_stands))

-- the code of a `spawn_after` stands for its actions
pub afters_stand : AftersStand
afters_stand c named timed a n =
    let second : suc c.slot ≡ c.slot + 1 = omega arith in
    let message : Message = record { task = c.task; args = a.args } in
    let doing : Rest =
    place_actions c.app c.task (arm_actions c.app a.cost a.delay message c.rest) (c.rest 0) in
    stands_called (call_of c) c.configuration {doing = doing} (task_of c named) timed a.may a.has a.is
    (λ until call.
    after_goes (record {
      call = call;
      armed = a.armed;
      turns = turns_for c.app a.cost a.costs;
      places = record { closed = a.places.closed; within = a.places.within };
      delay_is = a.delayed;
      args_are = ap (λ d. take c.t.args (drop d c.configuration.slots)) second ∙ a.arguments;
    }))
