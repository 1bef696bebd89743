-- The timer handler where a message is due: the first message of the heap leaves it and fires, the section closes with
-- the alarm set, the message becomes ready at its task's level, and the handler returns. So the code of the whole
-- handler stands, at the priority of the monotonic.
use Rattle.rt_gen_queue.proofs.Vocabulary.{App, AtPriority, Contains, Entry, HasCodeAt, Location, IsAccepted, IsSome}
use Rattle.rt_gen_queue.proofs.Vocabulary.{IsTimedPlace, IsWithin, Line, List, Message, Mono, Returns, Some, Task}
use Rattle.rt_gen_queue.proofs.Vocabulary.{Values, [], act_all, ap, arith, arming_of_entry, armed_place, capacity_of}
use Rattle.rt_gen_queue.proofs.Vocabulary.{ceiling}
use Rattle.rt_gen_queue.proofs.Vocabulary.{drop, few_before, few_messages, guard_of, if◌then◌else◌, is_software, least}
use Rattle.rt_gen_queue.proofs.Vocabulary.{length, levels, lt-ltb, memory, message_at, message_word, nat_lt, nothing}
use Rattle.rt_gen_queue.proofs.Vocabulary.{number_of, or_left, plain, ready_actions, ready_code, ready_room, refl}
use Rattle.rt_gen_queue.proofs.Vocabulary.{slice_get, slice_get_within, slice_index, storage, subst, sym, task_priority}
use Rattle.rt_gen_queue.proofs.Vocabulary.{the_task, timer_cost, true, with_queue, without_least, ℕ, ◌*◌}
use Rattle.rt_gen_queue.proofs.Vocabulary.{◌++◌}
use Rattle.rt_gen_queue.proofs.Vocabulary.{◌+◌, ◌-◌, ◌<◌, ◌^◌, ◌∙◌, ◌∷◌, ◌≡◌, ◌≤◌}
use Rattle.rt_ids.specs.{declared.limits.TheConstants.CAPACITY}
use Rattle.rt_actions.specs.{Content.with_fired}
use Rattle.rt_ids.specs.declared.ids.Section.TheVariants as section
use Rattle.rt_app.{proofs.TimerCeilings.mover_within, proofs.TimerCeilings.timer_within, specs.Level.armed_tasks}
use Rattle.rt_code.specs.declared.instr.Instr.TheVariants as instr
use Rattle.rt_gen_queue.proofs.{Entering.leave_placed, Entering.saves_inside, Numbers.added, Numbers.steps_and}
use Rattle.rt_gen_queue.proofs.{Owning.nobody_keeps, Places.IsPlaceOf, Placing.code_behind, Placing.code_front}
use Rattle.rt_gen_queue.proofs.{Queueing.MayReady, Queueing.ready_stands}
use Rattle.rt_gen_queue.proofs.Facts.{Spawned, few_free, few_ready, known, priority, ready_top, small}
use Rattle.rt_gen_queue.proofs.Facts as facts
use Rattle.rt_gen_queue.proofs.Layer.{Frame, Here, Now, S, begins, calculates, ends, inner, moved, returns_here, sets}
use Rattle.rt_gen_queue.proofs.Layer.{configuration, stays}
use Rattle.rt_gen_timer.proofs.{Alone.instant_in, Alone.message_same, Alone.number_in, Arranged.IsPicked}
use Rattle.rt_gen_timer.proofs.{Arranged.length_less, Calling.columns_now, Calling.entries, Calling.settles}
use Rattle.rt_gen_timer.proofs.{Closing.closing_fit, Closing.closing_lines, Comparing.LoopEnd, Delaying.at_address}
use Rattle.rt_gen_timer.proofs.{Leaving.IsAsBefore, Leaving.alone, Leaving.timer_left, Marking.fires, Opening.may_enter}
use Rattle.rt_gen_timer.proofs.{Represented.few_armings, Represented.place_of, Represented.represented_whole}
use Rattle.rt_gen_timer.proofs.{Trying.choice_at}
use Rattle.rt_gen_timer.proofs.{Trying.tries_stand, Turning.AreSinks, Turning.idle_enough, Turning.sinks_for}
use Rattle.rt_gen_timer.proofs.Acting.{Runs, code_part, run_stands, sooner}
use Rattle.rt_gen_timer.proofs.Judging.{AreKept, Handler, Known, MayHandle, Took, begun, due_rest, foremost}
use Rattle.rt_gen_timer.proofs.Judging.{foremost_instant, frame, in_section, inside, is_least, judges_stand, kept_on}
use Rattle.rt_gen_timer.proofs.Judging.{may_open, setting}
use Rattle.rt_gen_timer.proofs.Removing.{IsRemoved, Removal, removed, removes_stand}
use Rattle.rt_gen_timer.proofs.Window.{Words, window_of, words, words_of}
use Rattle.rt_gen_timer.specs.{TimerCalls.TimersStand, declared.armed.ArmedTask.ArmedTask}
use Rattle.rt_gen_timer.specs.TimerCode.{armed_task, choices_code, queue_of, timer_code}
use Rattle.rt_gen_timer.specs.TimerLines.{alarm_lines, fire_lines, front_lines, set}

-- a place of a task that may be armed, by its task
module _ (app : App) (accepted : IsAccepted app) (e : Entry) (is : IsTimedPlace app e) where
  task_is : (t : Task) × (slice_get app.tasks e.task ≡ Some t) × (is_software t ≡ true)
  task_is = the_task is_software app e.task is.1

  spawned : Spawned app e.task task_is.0
  spawned = record { accepted = accepted; at = task_is.1; software = task_is.2 }

  -- what holds of its task's level holds of the level at which its message becomes ready
  of_level : (P : ℕ → Type 0) → P task_is.0.priority → P (task_priority app e.task)
  of_level P = subst P (sym (priority app e.task task_is.0 spawned))

  level_place : IsPlaceOf app (task_priority app e.task) e
  level_place = of_level (λ p. IsPlaceOf app p e) (facts.place_of app e.task task_is.0 spawned e refl is.2)

  -- the handler may enter its section
  level_within : (mono : Mono) → app.mono ≡ Some mono
      → mono.priority ≤ ceiling app (section.Ready (task_priority app e.task))
  level_within mono timed = mover_within app mono timed e.task (task_priority app e.task) level_place.0 is.0

  -- its row is one of its task's
  row_own : armed_place app e < (armed_task app e.task).first + (armed_task app e.task).rows
  row_own =
      let rows : (armed_task app e.task).rows ≡ capacity_of app e.task =
      ap {B = ℕ} (λ b. if b then capacity_of app e.task else 0) is.0 in
      omega (arith, rows, is.2)

  word_small : message_word e < 2 ^ 32
  word_small = omega (arith, small app e.task task_is.0 spawned, few_free app e.task task_is.0 spawned, is.2)

within_ready : (app : App) (threshold p : ℕ) → threshold ≤ ceiling app (section.Ready p)
    → IsWithin (storage app) (AtPriority threshold) (AtPriority threshold) (section.Ready p)
unfolding storage
within_ready app threshold p less = less

-- The message of a place is in the hands; it is to become ready.
record Carried : Type 0 where
  pub e : Entry
  pub m : Message
  pub done : ℕ
  pub at : ℕ
  pub cells : List ℕ
  pub queues : Location → List Entry
  pub values : Values

abbrev in_hands : Handler → Carried → Here
in_hands k c = record (begun k) {
  done = c.done;
  places = c.e ∷ [];
  at = c.at;
  cells = c.cells;
  queues = c.queues;
  rest = act_all (ready_actions k.app (task_priority k.app c.e.task) c.m ++ Returns ∷ []) nothing c.values;
}

record MayRise (k : Handler) (c : Carried) : Type 0 where
  pub handle : MayHandle k
  pub timed : IsTimedPlace k.app c.e
  pub of_task : c.m.task ≡ c.e.task
  pub message : message_at k.app (slice_index c.cells) c.e ≡ c.m
  pub long : length c.cells ≡ length (memory k.app)
  pub kept : AreKept k.app k.threshold c.cells c.queues c.values
  pub has : HasCodeAt k.code c.at
      (ready_code k.app c.e.task (task_priority k.app c.e.task) k.threshold 1 ++ plain instr.Ret ∷ [])
  pub in_time : c.done + 13 ≤ timer_cost k.app

-- its words are those that a spawn works in
abbrev carried_frame : Handler → Words → Frame 9 8
carried_frame k w =
    inner (frame k) (w.answer ∷ [])
    (w.instant ∷ w.arming ∷ w.one ∷ w.other ∷ w.right ∷ w.row ∷ w.row_instant ∷ w.row_arming ∷ w.right_row
    ∷ w.right_instant ∷ w.right_arming ∷ w.less ∷ w.equal ∷ w.two ∷ [])

-- Within 13 steps it has become ready, and the handler has returned.
readies_stand : (k : Handler) (c : Carried) (w : Words) → MayRise k c
    → S (setting k) (Now (frame k) (in_hands k c) (words (record w { place = message_word c.e })))
readies_stand k c w may =
    let p : ℕ = task_priority k.app c.e.task in
    let ready = ready_code k.app c.e.task p k.threshold 1 in
    let accepted = may.handle.accepted in
    let there = task_is k.app accepted c.e may.timed in
    let spawns = spawned k.app accepted c.e may.timed in
    let asked : MayReady (setting k) (carried_frame k w) (in_hands k c) c.e.task p k.threshold c.e [] c.m =
    record {
      known = of_level k.app accepted c.e may.timed (Contains (levels k.app)) (known k.app c.e.task there.0 spawns);
      few = of_level k.app accepted c.e may.timed (λ p. ready_room k.app p ≤ 1024)
          (few_ready k.app c.e.task there.0 spawns);
      code = code_front k.code c.at ready (plain instr.Ret ∷ []) may.has;
      time = (omega (arith, may.in_time), (omega (arith, may.in_time), tt));
      enter = record {
        room = omega arith;
        masks = tt;
        off = omega arith;
        top = of_level k.app accepted c.e may.timed (λ p. ceiling k.app (section.Ready p) ≤ 2 ^ k.app.bits)
            (ready_top k.app c.e.task there.0 spawns);
        within = within_ready k.app k.threshold p (may.handle.enters c.e may.timed);
        closed = refl;
        nobody = nobody_keeps k.app (AtPriority k.threshold) (AtPriority k.threshold) (section.Ready p) tt;
      };
      hands = record {
        of_task = (refl, may.of_task);
        place = level_place k.app accepted c.e may.timed;
        hands = refl;
        message = may.message;
        long = may.long;
      };
    } in
    ready_stands asked (record { first = w.first; second = w.second; third = w.third; fourth = w.hand })
    (record { count = w.count; index = w.hole; word = w.place; number = w.work; mask = w.mask }) refl
    (λ r left more us readied.
    returns_here (code_behind k.code c.at (steps_and 12 c.at) ready (plain instr.Ret ∷ []) (omega arith) may.has).0
    (omega (arith, may.in_time), (omega (arith, may.in_time), tt)) refl refl refl refl
    (kept_on may.kept readied.own readied.agree).represents)

-- A message is due in the section of a handler.
record Due (k : Handler) : Type 0 where
  pub may : MayHandle k
  pub sinks : AreSinks k.app k.cost
  pub d : Took
  pub known : Known k d
  pub some : 0 < length known.now.represents.heap

module _ {k : Handler} (u : Due k) where
  -- the messages of the heap, and the one that is due
  abbrev heap : List Entry
  heap = u.known.now.represents.heap

  abbrev e : Entry
  e = foremost u.known

  abbrev m : Message
  m = message_at k.app (slice_index u.d.cells) e

  timed_place : IsTimedPlace k.app e
  timed_place = place_of u.known.now.represents 0 u.some

  abbrev picked : IsPicked (arming_of_entry k.app (slice_index u.d.cells)) (entries (inside k u.d)) e least
      without_least
  picked = (is_least u.known u.some).picked

  abbrev removal : Removal
  removal = record {
    queue = queue_of k.app;
    row = armed_place k.app;
    instant = instant_in k.app u.d.cells;
    arming = number_in k.app u.d.cells;
    heap = heap;
    all = length heap;
    size = length heap - 1;
    position = 0;
    rising = 0;
    turns = u.sinks.turns;
  }

  -- where the handler is in its section, by now
  abbrev here : List ℕ → ℕ → ℕ → Here
  here cells done at =
      in_section k u.d done at cells (due_rest k.app (arming_of_entry k.app (slice_index u.d.cells) e) u.d.us)

  -- all that is done there
  abbrev last_step : ℕ
  last_step = 80 + 31 * u.sinks.turns + 3 * armed_tasks k.app

  runs_here : Runs (frame k) last_step (here u.d.cells 0 k.first)
  runs_here = record {
    time = (omega (arith, u.sinks.few), (omega (arith, u.sinks.enough), (omega (arith, u.sinks.few), tt)));
    saves = saves_inside (may_enter (may_open u.may));
  }

  -- after the removal
  module _ {b : LoopEnd} (gone : IsRemoved removal (here u.d.cells 11 (k.first + 19)) b) where
    before : IsAsBefore k.app u.d.cells b.cells
    before = record { cells = gone.others }

    -- With its row in a slot it fires, the section closes with the alarm set, and it becomes ready.
    fires_then : (v : Words) → v.place ≡ armed_place k.app e → v.count ≡ length heap - 1 → (done at : ℕ)
        → done ≤ b.done + 3 * armed_tasks k.app → HasCodeAt k.code at (choice_at k e.task at)
        → S (setting k) (Now (frame k) (here b.cells done at) (words v))
    fires_then v row counted done at less found =
        let x = section.Timer in
        let now = u.known.now in
        let a : ArmedTask = armed_task k.app e.task in
        let to_word : ℕ = CAPACITY * e.task - a.first in
        let fire : List Line = fire_lines (queue_of k.app) 0 a (at + 26) in
        let ready : List Line =
        ready_code k.app e.task (task_priority k.app e.task) k.threshold 1 ++ plain instr.Ret ∷ [] in
        let closing : List Line = fire ++ closing_lines k.app k.threshold (at + 6) [] in
        let own : number_of (nat_lt v.place (a.first + a.rows)) ≡ 1 =
        ap (λ p. number_of (nat_lt p (a.first + a.rows))) row
        ∙ ap number_of (lt-ltb (armed_place k.app e) (a.first + a.rows) (row_own k.app u.may.accepted e timed_place)) in
        let word : v.place + to_word ≡ message_word e =
        omega (arith, row, few_before k.app u.may.accepted e.task) in
        let opens = (columns_now now {after = b.cells} gone.long).opens in
        let again = timer_left u.may.mono before now.represents picked gone.without gone.whole gone.count in
        run_stands (here b.cells done at) v closing runs_here (omega (arith, less, gone.within))
        (closing_fit k.app k.threshold (at + 6) [] refl)
        (subst (λ (line : Line). HasCodeAt k.code at (fire ++ (alarm_lines (queue_of k.app) 0 (at + 6) ++ line ∷ [])))
        (sym (leave_placed x (guard_of k.app x) k.threshold 9 0)) (code_front k.code at closing ready found))
        (sets
        (calculates 1 own
        (stays (omega arith)
        (sets
        (calculates (message_word e)
        (added v.place to_word (message_word e) word (word_small k.app u.may.accepted e timed_place))
        (fires (record { opens = opens; stands = picked.parts; of_task = refl }) refl refl
        (λ vs agree.
        at_address (at + 6) (omega arith)
        (settles now with_fired (record v { place = message_word e; other = to_word })
        (record {
          represents = again;
          few = omega (arith, few_armings now.represents now.taken.few);
          alone = alone u.may.mono before;
          long = gone.long;
        })
        (λ location read. agree location read ∙ u.known.agree location read)
        (omega (arith, counted, length_less now.represents.arranged picked.before picked.behind e picked.parts))
        (λ closed other us soon left later.
        ends
        (moved closed (at + 13) refl (omega arith)
        (readies_stand k
        (record {
          e = e;
          m = m;
          done = closed;
          at = at + 13;
          cells = b.cells;
          queues = with_queue u.d.queues x (picked.before ++ picked.behind);
          values = us;
        }) (record v { other = other })
        (record {
          handle = u.may;
          timed = timed_place;
          of_task = refl;
          message = sym (message_same k.app u.d.cells b.cells (alone u.may.mono before) e timed_place);
          long = left.long ∙ u.may.long;
          kept = kept_on u.may.kept left later;
          has = code_behind k.code at (at + 13) closing ready refl found;
          in_time = omega (arith, soon, less, gone.within, u.sinks.few);
        }))))))))))))

  -- The message leaves the heap first, and the choices of other tasks are passed: the handler has returned in time.
  takes_first : (w : Words)
      → S (setting k) (Now (frame k) (here u.d.cells 10 (k.first + 18)) (words (record w {
        count = length heap;
        one = 1;
        two = 2;
        place = armed_place k.app e;
      })))
  takes_first w =
      let s = u.known.now.represents in
      let w1 : Words = record w { place = armed_place k.app e } in
      let lines : List Line = timer_code k.app k.threshold k.first in
      let its = the_task is_software k.app e.task timed_place.1 in
      run_stands (here u.d.cells 10 (k.first + 18)) (record w1 { count = length heap; one = 1; two = 2 })
      (set (queue_of k.app) 0 6 0 ∷ []) runs_here (omega arith) refl (code_part k.code k.first lines 18 1 u.may.code)
      (sets
      (ends
      (moved 11 (k.first + 19) refl (omega arith)
      (removes_stand {r = removal} {h = here u.d.cells 11 (k.first + 19)} w1
      (record {
        code = code_part k.code k.first lines 19 54 u.may.code;
        runs = sooner runs_here (omega arith);
        above = λ less. omega arith;
        reach = omega (arith, u.sinks.reach, s.room, s.arranged.long);
        few = omega (arith, s.room, s.arranged.long, few_messages k.app u.may.accepted);
        fewer = omega (arith, u.some);
        inside = omega arith;
        columns = columns_now u.known.now refl;
        whole = represented_whole u.d.cells s u.known.now.taken.few;
        order = s.arranged.order;
      })
      (λ b hand t a y gone.
      let v : Words = removed w1 y (length heap - 1) hand b.hole t a in
      moved b.done (k.first + 73) refl (omega arith)
      (tries_stand k k.app.tasks e 0 (plain (instr.Jump (k.first + 10)) ∷ []) (here b.cells b.done (k.first + 73)) v
      (record {
        place = timed_place;
        tasks = λ j t there. (let from : 0 + j ≡ j = omega arith in ap (slice_get k.app.tasks) from ∙ there);
        least = omega arith;
        among = omega (arith, slice_get_within k.app.tasks e.task its.0 its.1);
        code = code_behind k.code k.first (k.first + 73) (front_lines (queue_of k.app) 0 k.threshold k.first)
            (choices_code k.app k.threshold (k.first + 73) 0 k.app.tasks ++ plain (instr.Jump (k.first + 10)) ∷ []) refl
            u.may.code;
        runs = sooner runs_here (omega (arith, gone.within));
        row = refl;
      })
      (λ done to other less found. fires_then gone (record v { other = other }) refl refl done to less found)))))))

-- the handler may enter the section of the timer queue
within_timer : (app : App) (mono : Mono) → app.mono ≡ Some mono
    → IsWithin (storage app) (AtPriority mono.priority) (AtPriority mono.priority) section.Timer
unfolding storage
within_timer app mono is = timer_within app mono is

pub timers_stand : TimersStand
timers_stand app accepted mono is cost costs there thread = λ slots cells queues values words_are long represented.
    let k : Handler = record {
      app = app;
      code = there.code;
      bodies = there.bodies;
      thread = thread;
      threshold = mono.priority;
      cost = cost;
      first = there.address;
      back = drop 24 slots;
      cells = cells;
      queues = queues;
      values = values;
    } in
    let w : Words = words_of 0 slots in
    let may : MayHandle k = record {
      accepted = accepted;
      mono = subst IsSome (sym is) refl;
      code = there.has;
      least = idle_enough app cost costs;
      kept = record {
        represents = λ location own.
            represented location
            (or_left ((storage app).is_kept (AtPriority mono.priority) location)
            ((storage app).is_constant (AtPriority mono.priority) location) own);
      };
      long = long;
      within = within_timer app mono is;
      enters = λ e place. level_within app accepted e place mono is;
    } in
    let within : 0 + 24 ≤ length slots = omega (arith, words_are) in
    begins (record (configuration (setting k) (begun k)) { lefts = timer_cost app ∷ []; slots = slots })
    (timer_cost app)
    (subst (λ (ss : List ℕ). S (setting k) (record (begun k) { slots = ss })) (sym (window_of 0 slots within))
    (judges_stand may w
    (λ mask time other d known some.
    let room = known.now.represents.room in
    let u : Due k = record {
      may = may;
      sinks = sinks_for app cost accepted costs (omega (arith, some, room, known.now.represents.arranged.long));
      d = d;
      known = known;
      some = some;
    } in
    takes_first u (record w { mask = mask; answer = time; instant = foremost_instant known; other = other }))))
