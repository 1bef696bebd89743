-- The code of a `cancel`: the message of the handle leaves the queue and its place becomes free, or there is none.
use Rattle.rt_gen_queue.proofs.Vocabulary.{Agree, Cancels, Content, Enters, Entry, FREE_COST, Frees, Guarded, Leaves}
use Rattle.rt_gen_queue.proofs.Vocabulary.{LeavesMine, Line, List, Marked, Number, Rest, Section, [], act}
use Rattle.rt_gen_queue.proofs.Vocabulary.{act_all, ap, arith, capacities_before, armed_messages, armed_place, at}
use Rattle.rt_gen_queue.proofs.Vocabulary.{capacity_of, count, count_more, drop, few_messages, free_at}
use Rattle.rt_gen_queue.proofs.Vocabulary.{handle_section_cost, leave, leave_timer, length, memory, line_with_note}
use Rattle.rt_gen_queue.proofs.Vocabulary.{number}
use Rattle.rt_gen_queue.proofs.Vocabulary.{operate, queued_more, refl, slice_index, storage, subst, suc, sym, take}
use Rattle.rt_gen_queue.proofs.Vocabulary.{target_of, with_queue, ℕ, ◌*◌, ◌++◌, ◌+◌, ◌-◌, ◌<◌, ◌∙◌, ◌∷◌, ◌≡◌, ◌≤◌}
use Rattle.rt_actions.specs.Content.{with_cancelled}
use Rattle.rt_ids.specs.declared.ids.Section.TheVariants as section
use Rattle.rt_ids.specs.declared.op.Op.TheVariants as op
use Rattle.rt_app.{proofs.Counting.parts_alike, specs.Sending.cancel_actions}
use Rattle.rt_code.specs.declared.instr.Instr.TheVariants as instr
use Rattle.rt_code.specs.declared.instr.Note.TheVariants as note
use Rattle.rt_gen_queue.proofs.{Numbers.added, Numbers.steps_and, Places.entry_at}
use Rattle.rt_gen_queue.proofs.Entering.{MayEnter, agree_left, enters, leaves, opened, own_left, reads_it}
use Rattle.rt_gen_queue.proofs.Entering.{section_stands}
use Rattle.rt_gen_queue.proofs.Facts.{capacity, few_free, free_top}
use Rattle.rt_gen_queue.proofs.Layer.{Here, Now, S, calculates, ends, jumps, loads, moved, reads_open, sets}
use Rattle.rt_gen_queue.proofs.Layer.{configuration, stores_at, writes_open}
use Rattle.rt_gen_queue.proofs.Owning.{free_back, free_represented, is_inside, nobody_keeps, represented_put}
use Rattle.rt_gen_queue.proofs.Returning.{IsGiven, Returned, free_home, frees, given_back, room_left}
use Rattle.rt_gen_timer.proofs.{Alone.instant_in, Alone.number_in, Comparing.LoopEnd, Delaying.at_address}
use Rattle.rt_gen_timer.proofs.{Marking.cancels, Rowing.taken_off, Settling.reach_enough, Window.Words, Window.words}
use Rattle.rt_gen_timer.proofs.Acting.{code_first, code_part, run_stands, sooner}
use Rattle.rt_gen_timer.proofs.Calling.{CallBegins, Call, HasCalled, Left, at_work, behind_call, call_of}
use Rattle.rt_gen_timer.proofs.Calling.{columns_now}
use Rattle.rt_gen_timer.proofs.Calling.{f, leaving_code, leaving_fits, on_window, own_on, settles, stands_called}
use Rattle.rt_gen_timer.proofs.Calling.{task_of}
use Rattle.rt_gen_timer.proofs.Leaving.{IsAsBefore, alone, timer_left}
use Rattle.rt_gen_timer.proofs.Removing.{IsRemoved, Removal, removed, removes_stand}
use Rattle.rt_gen_timer.proofs.Seeking.{IsSeen, MaySeek, Taken, runs_call, runs_seen, seeks, seen}
use Rattle.rt_gen_timer.proofs.Seeking.{seen_words}
use Rattle.rt_gen_timer.proofs.Represented.{few_armings, place_of, row_of, represented_whole}
use Rattle.rt_gen_timer.specs.TimerCalls.{CancelsStand, MayUsePlaces, handle_steps}
use Rattle.rt_gen_timer.specs.TimerCode.{cancel_code, queue_of}
use Rattle.rt_gen_timer.specs.TimerLines.{alarm_lines, answer_lines, calc, free_lines, set}

-- what is asked of it beside what is asked of each call
record AsksCancel (c : Call) (handle : ℕ) (h : Here) : Type 0 where
  pub call : CallBegins c (handle_steps c.z.app) (cancel_code c.z.app c.task c.threshold c.slot h.at)
      (cancel_actions c.z.app (handle_section_cost c.z.app) c.task handle (c.rest 0) (c.rest 1)) h
  pub places : MayUsePlaces c.z.app c.z.who c.task (configuration c.z h)
  pub shown : slice_index h.slots c.slot ≡ handle

module _ {c : Call} {handle : ℕ} {h : Here} (k : AsksCancel c handle h) where
  open c use {z, task, threshold, slot, rest}
  open c.z use {app, code, who}
  open k.call use {may, has, on}

  -- the lines, as they stand; and the last ones of the section and those after it, by the window
  abbrev all : List Line
  all = cancel_code app task threshold slot h.at

  abbrev last_lines : List Line
  last_lines = line_with_note instr.Mark (note.Cancel task 0) ∷ alarm_lines (queue_of app) 0 (h.at + 72)

  abbrev place_of_row_lines : List Line
  place_of_row_lines = set (queue_of app) 0 13 (capacities_before app task) ∷ calc (queue_of app) 0 op.Sub 7 7 13 ∷ []

  -- what is left to do with the message in the hands
  abbrev freed_rest : Rest
  freed_rest =
      act_all (Enters (section.Free task) FREE_COST ∷ Frees task ∷ Leaves (section.Free task) ∷ []) (rest 0)

  abbrev seek : MaySeek c h
      (record {
        handle = handle;
        slot = 0;
        missing = 89;
        found = act (Cancels task handle) (leave_timer app freed_rest);
      })
  seek = record {
    may = may;
    code = code_first code 17 h.at all has;
    none = code_part code h.at all 89 2 has;
    known = refl;
    shown = λ mask n hole place other. k.shown;
    is = k.call.is;
  }

  -- The answer is 0, and it goes on after the call.
  gives_none : (b : Left) → HasCalled z h c.values (handle_steps app) 0
      (record b { done = steps_and 2 b.done; words = record b.words { answer = 0 } })
      → S z (Now (f may) (behind_call h (h.at + 87) (rest 0) b) (words b.words))
  gives_none b called =
      run_stands (behind_call h (h.at + 87) (rest 0) b) b.words (answer_lines (queue_of app) 0 0 (h.at + 91))
      (runs_call seek) (omega (arith, called.in_time)) refl (code_part code h.at all 87 2 has)
      (sets (jumps (on 0 _ called)))

  -- after the section of the timer queue, with the message in the hands
  record HasBack (e : Entry) (b : Left) : Type 0 where
    pub of_task : e.task ≡ task
    pub place : e.place < capacity_of app e.task
    pub in_time : b.done + 8 ≤ h.done + handle_steps app
    pub place_is : b.words.place ≡ e.place
    pub one_is : b.words.one ≡ 1
    pub own : LeavesMine (storage app) who (configuration z h) b.cells b.queues
    pub agree : Agree (storage app) who h.held b.values c.values

  module _ {e : Entry} (b : Left) (back : HasBack e b) where
    abbrev x : Section
    x = section.Free task

    -- its place, which is that of the message in the hands
    abbrev given_up : Entry
    given_up = entry_at task e.place

    abbrev holding : Here
    holding = record (behind_call h (h.at + 81) freed_rest b) { places = e ∷ h.places }

    hands : e ∷ h.places ≡ given_up ∷ h.places
    hands = ap (λ y. y ∷ h.places) (parts_alike e given_up back.of_task refl)

    enter : MayEnter z (f may) holding x threshold
    enter = record {
      room = omega arith;
      masks = may.masks;
      off = may.off;
      top = free_top app task c.t may.facts;
      within = k.places.within;
      closed = k.places.closed;
      nobody = nobody_keeps app who who x tt;
    }

    -- It becomes free in a section of its own, and is then the one that is taken next.
    gives_back : S z (Now (f may) holding (words b.words))
    gives_back =
        section_stands (words b.words) (take 4 (drop 1 (free_lines (queue_of app) 0 threshold (target_of app task))))
        enter
        refl refl (sooner (runs_call seek) (omega (arith, back.in_time))).time (code_part code h.at all 81 6 has)
        (enters enter (omega arith) refl
        (λ mask vs cells queues taken.
        let entries : List Entry = queues (Guarded x) in
        let n : ℕ = length entries in
        let long : length cells ≡ length (memory app) = taken.same.long ∙ back.own.long ∙ may.cells in
        let known : Returned app task c.t cells entries e.place = record {
          task = may.facts;
          long = long;
          content = vs (Guarded x);
          represents = free_represented app task (slice_index cells) entries (vs (Guarded x)) taken.represented;
          less =
              omega (arith, back.place, ap (capacity_of app) back.of_task, capacity app task c.t may.facts);
          once = λ y.
              let more = queued_more queues y (record { section = x; kind = Marked }) h.held in
              let nothing : count y [] ≡ 0 = refl in
              let one = count_more y given_up [] in
              omega (arith, taken.once y, more, ap (count y) hands, count_more y given_up h.places, one, nothing);
        } in
        let opens = is_inside app who h.held (opened z (f may) x threshold) x refl in
        let few : suc n ≤ c.t.capacity = room_left known in
        let small : c.t.capacity ≤ 16 =
        omega (arith, few_free app task c.t may.facts, capacity app task c.t may.facts) in
        let home = free_home known in
        loads n
        (reads_open
        (record { opens = opens; long = long; home = home (free_at app task) 0 (omega arith) (omega arith) })
        known.represents.count)
        (stores_at n e.place refl back.place_is
        (writes_open (record { opens = opens; long = long; home = home _ (suc n) (omega arith) few }))
        (λ placed first.
        calculates (suc n) (ap (operate op.Add n) back.one_is ∙ added n 1 (suc n) (omega arith) (omega arith))
        (frees (suc n) refl
        (writes_open (record {
          opens = opens;
          long = first.long ∙ long;
          home = home (free_at app task) 0 (omega arith) (omega arith);
        }))
        (record { opens = opens; hands = hands; of_task = refl; doing = refl })
        (λ left ws second agree.
        let given : IsGiven app task cells left (given_up ∷ entries) (vs (Guarded x)) =
        given_back known placed left first second in
        let content : Content = Number (number (ws (Guarded x)) - 1) in
        let same : ws (Guarded x) ≡ vs (Guarded x) = agree (Guarded x) (reads_it tt enter taken) in
        let own = own_left tt enter taken (given_up ∷ entries) left given.long given.elsewhere in
        leaves threshold refl refl refl
        (represented_put app (slice_index left) (given_up ∷ entries) content queues ws x
        (subst
        (λ (c : Content). (storage app).Represents (Guarded x) (slice_index left) (given_up ∷ entries)
        (Number (number c - 1))) (sym same)
        (free_back (slice_index cells) entries (vs (Guarded x)) taken.represented given.represents)))
        (λ us later.
        ends
        (moved (steps_and 6 b.done) (h.at + 87) refl (omega arith)
        (gives_none
        (record {
          done = steps_and 6 b.done;
          words = record b.words { mask = mask; count = suc n };
          cells = left;
          queues = with_queue queues x (given_up ∷ entries);
          values = us;
        })
        (record {
          small = omega arith;
          answered = refl;
          in_time = omega (arith, back.in_time);
          own = own_on z h back.own (record { long = own.long; touched = own.touched; queued = own.queued });
          agree = λ location read.
              agree_left tt enter taken content later agree location read ∙ back.agree location read;
        }))))))))))

  module _ {o : Taken} {done j : ℕ} (is : IsSeen seek o done j) where
    abbrev e : Entry
    e = at is.now.represents.heap j

    abbrev removal : Removal
    removal = record {
      queue = queue_of app;
      row = armed_place app;
      instant = instant_in app o.cells;
      arming = number_in app o.cells;
      heap = is.now.represents.heap;
      all = length is.now.represents.heap;
      size = length is.now.represents.heap - 1;
      position = j;
      rising = length is.now.represents.heap;
      turns = length is.now.represents.heap;
    }

    few : length is.now.represents.heap ≤ armed_messages app
    few = omega (arith, is.now.represents.arranged.long, is.now.represents.room)

    most : armed_messages app ≤ 16 * 64
    most = few_messages app may.facts.accepted

    -- the job in the section, where it is known what is to be done
    abbrev here : ℕ → ℕ → List ℕ → Here
    here begin to cells =
        at_work (seen seek o) begin to h.places cells o.queues
        (act (Cancels task handle) (leave_timer app freed_rest) o.values)

    -- what slots have after the removal
    record AreOut (v : Words) : Type 0 where
      pub shown : v.answer ≡ handle
      pub place : v.place ≡ armed_place app e
      pub one : v.one ≡ 1
      pub count : v.count ≡ length is.now.represents.heap - 1

    -- After the removal the mark takes it into the hands, and the section closes.
    takes_out : {b : LoopEnd} (v : Words) → AreOut v → IsRemoved removal (here done (h.at + 17) o.cells) b
        → S z (Now (f may) (here b.done (h.at + 71) b.cells) (words v))
    takes_out {b = b} v are gone =
        let first : ℕ = capacities_before app task in
        let place = place_of is.now.represents j is.inside in
        let row : armed_place app e < armed_messages app = row_of is.now.represents j is.inside in
        let same : capacities_before app e.task ≡ first = ap (capacities_before app) is.of_task in
        let armings = few_armings is.now.represents is.now.taken.few in
        let kept : IsAsBefore app o.cells b.cells = record { cells = gone.others } in
        let again = timer_left may.timed kept is.now.represents is.found gone.without gone.whole gone.count in
        run_stands (here b.done (h.at + 71) b.cells) v (last_lines ++ leave app section.Timer threshold 9
        ∷ place_of_row_lines)
        (runs_seen seek) (omega (arith, gone.within, is.early, few))
        (leaving_fits app threshold last_lines place_of_row_lines refl refl)
        (leaving_code z (f may) threshold (h.at + 71) last_lines place_of_row_lines (code_part code h.at all 71 10 has))
        (cancels are.shown
        (record {
          opens = is_inside app who h.held (opened z (f may) section.Timer threshold) section.Timer refl;
          stands = is.found.parts;
          of_task = is.of_task;
        }) refl
        (λ ws agree.
        at_address (h.at + 72) (omega arith)
        (settles is.now (with_cancelled task handle) v
        (record { represents = again; few = omega (arith, armings); alone = alone may.timed kept; long = gone.long })
        agree (are.count ∙ sym gone.count ∙ again.count)
        (λ last other us early own later.
        sets
        (calculates e.place
        (ap (λ p. operate op.Sub p first) are.place
        ∙ taken_off (armed_place app e) first e.place (omega (arith, same)) (omega (arith, row, most)))
        (ends
        (moved (steps_and 2 last) (h.at + 81) refl (omega arith)
        (gives_back
        (record {
          done = steps_and 2 last;
          words = record v { other = first; place = e.place };
          cells = b.cells;
          queues = with_queue o.queues section.Timer (is.found.before ++ is.found.behind);
          values = us;
        })
        (record {
          of_task = is.of_task;
          place = place.2;
          in_time = omega (arith, early, gone.within, is.early, few);
          place_is = refl;
          one_is = are.one;
          own = own;
          agree = later;
        })))))))))

    -- The message at a position in the heap leaves it and comes into the hands.
    found : (x r : ℕ) → S z (Now (f may) (here done (h.at + 17) o.cells) (words (seen_words seek is x r)))
    found x r =
        let n : ℕ = length is.now.represents.heap in
        let v : Words = seen_words seek is x r in
        removes_stand {r = removal} v
        (record {
          code = code_part code h.at all 17 54 has;
          runs = sooner (runs_seen seek) (omega (arith, is.early, few));
          above = λ less. omega (arith, less, reach_enough n);
          reach = omega (arith, reach_enough n);
          few = omega (arith, few, most);
          fewer = omega (arith, is.inside);
          inside = omega (arith, is.inside);
          columns = columns_now is.now refl;
          whole = represented_whole o.cells is.now.represents is.now.taken.few;
          order = is.now.represents.arranged.order;
        })
        (λ b hand t a u gone.
        moved b.done (h.at + 71) refl (omega arith)
        (takes_out (removed v u (n - 1) hand b.hole t a)
        (record { shown = k.shown; place = refl; one = refl; count = refl }) gone))

  -- The call stands.
  cancel_goes : S z h
  cancel_goes =
      on_window may
      (seeks seek (λ o done j x r is. found is x r)
      (λ b called. moved b.done (h.at + 91) refl (omega arith) (on 1 b called)))

-- the code of a `cancel` stands for its actions
pub cancels_all_stand : CancelsStand
cancels_all_stand c named timed a n =
    let doing : Rest = cancel_actions c.app (handle_section_cost c.app) c.task a.handle (c.rest 0) (c.rest 1) in
    stands_called (call_of c) c.configuration {doing = doing} (task_of c named) timed a.may a.has a.is
    (λ until call.
    cancel_goes (record {
      call = call;
      places = record { closed = a.places.closed; within = a.places.within };
      shown = a.shown;
    }))
