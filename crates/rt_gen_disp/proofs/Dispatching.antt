-- The code of a dispatcher stands.
use Rattle.rt_gen_queue.proofs.Vocabulary.{AreRepresented, At, AtPriority, BodyRow, Doing, Entry, Guarded, HasCodeAt}
use Rattle.rt_gen_queue.proofs.Vocabulary.{Location}
use Rattle.rt_gen_queue.proofs.Vocabulary.{KeepsTaskLimits, Line, List, Messages, None, Rest, Section, RepresentsReady}
use Rattle.rt_gen_queue.proofs.Vocabulary.{StandsFrom, Values, [], accepted_are_sound, all_at, ap, arith, calm}
use Rattle.rt_gen_queue.proofs.Vocabulary.{capacity_is, drop, home_of, is_of_level, length, map, memory, message_at}
use Rattle.rt_gen_queue.proofs.Vocabulary.{message_word, messages, or_left, queue_at, ready_is_home, refl, slice_index}
use Rattle.rt_gen_queue.proofs.Vocabulary.{start_doing, storage, subst, suc, sym, the_task, true, ℕ, ◌+◌, ◌<◌, ◌∙◌, ◌∷◌}
use Rattle.rt_gen_queue.proofs.Vocabulary.{◌≡◌, ◌≤◌}
use Rattle.rt_ids.specs.declared.ids.Section.TheVariants as section
use Rattle.rt_app.specs.{BodyCost.dispatcher_cost, Doings.dispatcher_doing}
use Rattle.rt_app.specs.{declared.costs.TheConstants.DISPATCHER_WORDS}
use Rattle.rt_gen_queue.proofs.{Owning.ready_represented, Places.few_places, Placing.code_behind, Placing.code_front}
use Rattle.rt_gen_queue.proofs.Entering.{enter_fits, enter_placed, enters, leave_fits, leave_placed, leaves}
use Rattle.rt_gen_queue.proofs.Layer.{Here, Now, S, Straight, all_fit, begins, calculates, ends, loads, loads_at}
use Rattle.rt_gen_queue.proofs.Layer.{next_in_time, placed, reads_open, returns_here, sets, skips, skips_off, stays}
use Rattle.rt_gen_queue.proofs.Layer.{stores, writes_open}
use Rattle.rt_gen_queue.proofs.Numbers.{added, one_less, rest_of, steps_and}
use Rattle.rt_gen_queue.specs.declared.queue.ReadyQueue.{ReadyQueue}
use Rattle.rt_gen_disp.proofs.{Choosing.HasTime, Choosing.choices_run, Choosing.tasks_of, Running.IsOldest}
use Rattle.rt_gen_disp.proofs.Dispatchers.{Dispatcher, Moment, Represented, job, outside, rows, within}
use Rattle.rt_gen_disp.proofs.Kept.{may_enter, open_here, represented_agreed, represented_taken, represented_written}
use Rattle.rt_gen_disp.proofs.Rings.{HasOldest, IsTaken, at_of, head_less, head_of, next_of, oldest, ring_home, room_of}
use Rattle.rt_gen_disp.proofs.Rings.{taken}
use Rattle.rt_gen_disp.proofs.Words.{Words, own, place_in, task_in, words, words_are, words_of}
use Rattle.rt_gen_disp.specs.{Code.choices_code, Code.exit_of, Code.front_lines, Dispatching.DispatchersStand}

-- the lines before the tasks, as a run on the frame
front_placed : (q : ReadyQueue) (at : ℕ) → front_lines q at ≡ map (placed 0) (front_lines q at)
front_placed q at =
    let x : Section = section.Ready q.level in
    rw (enter_placed x q.guard q.level 14 0, leave_placed x q.guard q.level 14 0) refl

front_fits : (q : ReadyQueue) (at : ℕ) → all_fit 16 14 (front_lines q at) ≡ true
front_fits q at =
    let x : Section = section.Ready q.level in
    rw (enter_fits x q.guard q.level 14 16 14, leave_fits x q.guard q.level 14 16 14) refl

-- the lines of a dispatcher's tasks, where its own begin at an address
abbrev choices_from : Dispatcher → ℕ → ℕ → List Line
choices_from d at to = choices_code d.app d.level (exit_of d.app d.level at) to 0 0 d.app.tasks

module _ (d : Dispatcher) (at : ℕ) (choices : HasCodeAt d.code (at + 18) (choices_from d at (at + 18))) where
  abbrev x : Section
  x = section.Ready d.level

  abbrev lines : List Line
  lines = front_lines (queue_at d.app d.level) at

  -- its messages are what its cells represent
  abbrev ready_doing : List ℕ → List Entry → Rest
  ready_doing cells es = start_doing d.app d.level (map (message_at d.app (slice_index cells)) es)

  -- nothing is ready
  none_run : {m : Moment} {w : Words} {vs : Values} {deadline : ℕ} → AreRepresented d.app d.level m.cells m.queues vs
      → Represented d x m.cells m.queues vs
      → Straight (job d) own (drop 4 lines) (within d x deadline m [] (start_doing d.app d.level [] vs)) (words w)
  none_run represented represents =
      leaves d.level refl refl refl represents
      (λ ws agree. record {
        runs = λ run has. returns_here has.0 (next_in_time run) refl refl refl refl
            (λ location kept. (represented_agreed [] represented agree).each location (or_left _ _ kept));
      })

  -- the moment and the words after its taking
  abbrev behind_taking : Moment → List ℕ → Moment
  behind_taking m stored = record m { done = steps_and 12 m.done; at = steps_and 12 m.at; cells = stored }

  abbrev taken_words : Words → List ℕ → Entry → List Entry → Words
  taken_words w cells o es = record w {
    word = message_word o;
    left = length es;
    index = next_of d cells;
    other = 16;
    one = 1;
    place = o.place;
    task = o.task;
  }

  -- its place is below 16
  small_place : {cells : List ℕ} {queues : Location → List Entry} {vs : Values} {o : Entry} {es : List Entry}
      → HasOldest d cells queues vs o es → o.place < 16
  small_place {o = o} ring =
      let task = the_task (is_of_level d.level) d.app o.task ring.represents.places.0.0 in
      let limits : KeepsTaskLimits task.0 =
      all_at KeepsTaskLimits d.app.tasks o.task task.0 d.accepted.limits.tasks task.1 in
      omega (arith, ring.represents.places.0.1, limits.most_capacity, capacity_is d.app o.task task.0 task.1)

  -- the oldest message is taken off
  take_run : {m : Moment} {vs : Values} {deadline : ℕ} {rest : Doing Values} {o : Entry}
      {es : List Entry} (w : Words) → HasOldest d m.cells m.queues vs o es
      → ((stored : List ℕ) → IsTaken d m.cells stored o es
      → S (job d) (Now own (within d x deadline (behind_taking m stored) [] rest) (words (taken_words w m.cells o es))))
      → Straight (job d) own (drop 6 lines) (within d x deadline m [] rest)
      (words (record w { left = suc (length es) }))
  take_run {m = m} {o = o} {es = es} w ring on =
      let long = ring.represented.long in
      let head : ℕ = head_of d m.cells in
      let room : ℕ = room_of d in
      let few : room ≤ 1024 = few_places d.app d.level d.accepted.limits.tasks d.accepted.limits.few_tasks in
      let less : head < room = head_less ring in
      let room_of_all = ring.represents.room in
      let below = small_place ring in
      let head_home = ring_home ring (at_of d) 0 (omega arith) (omega arith) in
      let count_home = ring_home ring (at_of d + 1) 1 refl (omega arith) in
      let oldest_home = ring_home ring (at_of d + 2 + head) (2 + head) (omega arith) (omega arith) in
      loads head (reads_open (record { opens = open_here d x; long = long; home = head_home }) refl)
      (loads_at head (message_word o) refl
      (reads_open (record { opens = open_here d x; long = long; home = oldest_home }) (oldest ring))
      (sets (calculates (length es) (one_less (length es) (omega arith))
      (stores (length es) refl (writes_open (record { opens = open_here d x; long = long; home = count_home }))
      (λ counted first.
      calculates (head + 1) (added head 1 (head + 1) refl (omega arith))
      (sets (calculates (next_of d m.cells) (rest_of (head + 1) room (omega arith))
      (stores (next_of d m.cells) refl
      (writes_open (record { opens = open_here d x; long = first.long ∙ long; home = head_home }))
      (λ stored second.
      sets (calculates o.task (task_in o.task o.place below)
      (calculates o.place (place_in o.task o.place below)
      (ends (on stored (taken ring counted stored first second))))))))))))))

  -- and its task is looked for
  some_run : {m : Moment} {vs : Values} {deadline : ℕ} {o : Entry} {es : List Entry} (w : Words)
      → m.at ≡ at + 6 → HasTime d (tasks_of d) (12 + m.done) m.until deadline → HasOldest d m.cells m.queues vs o es
      → Straight (job d) own (drop 6 lines) (within d x deadline m [] (ready_doing m.cells (o ∷ es) vs))
      (words (record w { left = suc (length es) }))
  some_run {m = m} {vs = vs} {deadline = deadline} {o = o} {es = es} w at_is time ring =
      take_run w ring (λ stored is.
      let kept = represented_written x tt ring.represented is.long is.elsewhere in
      let now = ring.represents.messages ∙ ap Messages is.messages in
      let oldest : IsOldest d stored m.queues vs o es =
      record {
        represented = kept;
        queue = ring.queue;
        content = now;
        rest = is.represents;
        placed =
            ring.represents.places.0;
      } in
      let to : at + 18 ≡ steps_and 12 m.at = omega (arith, at_is) in
      subst (λ ms. S (job d) (Now own (within d x deadline (behind_taking m stored) []
      (start_doing d.app d.level ms vs)) (words (taken_words w m.cells o es)))) (sym is.messages)
      ((choices_run oldest at (steps_and 12 m.at)).runs (omega arith)
      (record { job = omega (arith, time.job); section = omega (arith, time.section) })
      (subst (λ a. HasCodeAt d.code a (choices_from d at a)) to choices)
      (record { left_is = refl; unit_is = refl; place_is = refl; task_is = refl })))

  -- whatever is ready
  entered_run : {m : Moment} {w : Words} {vs : Values} {deadline : ℕ} → m.at ≡ suc at
      → HasTime d (tasks_of d) (15 + m.done) m.until deadline → AreRepresented d.app d.level m.cells m.queues vs
      → Represented d x m.cells m.queues vs → Straight (job d) own (drop 1 lines)
      (within d x deadline m [] (start_doing d.app d.level (messages (vs (Guarded x))) vs)) (words w)
  entered_run {m = m} {w = w} {vs = vs} {deadline = deadline} at_is time represented represents =
      let ready =
      ready_represented d.app d.level (slice_index m.cells) (m.queues (Guarded x)) (vs (Guarded x)) represents in
      subst (λ ms. Straight (job d) own (drop 1 lines)
      (within d x deadline m [] (start_doing d.app d.level ms vs)) (words w)) (sym (ap messages ready.messages))
      (by_queue (m.queues (Guarded x)) refl ready)
    where
      count_home : home_of d.app (at_of d + 1) ≡ At (Guarded x)
      count_home = ready_is_home d.app d.level d.is 1 (omega arith)

      by_queue : (es : List Entry) → m.queues (Guarded x) ≡ es
          → RepresentsReady d.app (slice_index m.cells) d.level es (vs (Guarded x))
          → Straight (job d) own (drop 1 lines) (within d x deadline m [] (ready_doing m.cells es vs)) (words w)
      by_queue [] queue ready =
          loads 0
          (reads_open (record { opens = open_here d x; long = represented.long; home = count_home }) ready.count)
          (skips_off 1 (omega (arith, at_is)) refl (none_run represented represents))
      by_queue (o ∷ es) queue ready =
          loads (suc (length es))
          (reads_open (record { opens = open_here d x; long = represented.long; home = count_home }) ready.count)
          (stays (omega arith)
          (skips 2 (omega (arith, at_is))
          (some_run w refl (record { job = omega (arith, time.job); section = omega (arith, time.section) })
          (record { represented = represented; queue = queue; represents = ready }))))

  front_run : {m : Moment} {w : Words} {vs : Values} → m.at ≡ at → m.done ≡ 0
      → m.until ≡ dispatcher_cost d.app d.level → AreRepresented d.app d.level m.cells m.queues vs
      → Straight (job d) own lines (outside m [] (dispatcher_doing d.app d.level vs)) (words w)
  front_run at_is none until_is represented =
      enters (may_enter d x refl tt ((accepted_are_sound d.app d.accepted).ceilings x d.is) (omega arith))
      (omega arith) refl
      (λ v ws others queues taken.
      entered_run (omega arith) (record { job = omega (arith, until_is); section = omega (arith, none) })
      (represented_taken x taken represented) taken.represented)

  dispatches : HasCodeAt d.code at lines → (bodies : List BodyRow) → bodies ≡ rows d
      → StandsFrom (storage d.app) d.code bodies d.thread (AtPriority d.level) (length (memory d.app)) DISPATCHER_WORDS
      at (dispatcher_cost d.app d.level) (dispatcher_doing d.app d.level)
  dispatches front bodies rows_are = λ slots cells queues vs words_long long kept.
      let m : Moment =
      record { done = 0; until = dispatcher_cost d.app d.level; at = at; cells = cells; queues = queues } in
      let start : Here = outside m [] (dispatcher_doing d.app d.level vs) in
      let begin : List ℕ → Here = λ slots. record start { slots = slots } in
      let run : Straight (job d) own lines (begin []) (words (words_of slots)) =
      front_run refl refl refl (record { long = long; each = kept }) in
      let fits = front_fits (queue_at d.app d.level) at in
      rw rows_are
      (begins (calm m.until slots None at cells queues (dispatcher_doing d.app d.level vs)) m.until
      (subst (λ slots. S (job d) (begin slots)) (words_are slots words_long)
      (run.runs
      (record { time = (omega arith, (omega arith, tt)); saves = tt; long = refl; fit = fits })
      (subst (HasCodeAt d.code at) (front_placed (queue_at d.app d.level) at) front))))

pub dispatchers_stand : DispatchersStand
dispatchers_stand app accepted level is there thread =
    let d : Dispatcher = record {
      app = app;
      accepted = accepted;
      level = level;
      is = is;
      code = there.code;
      entry = there.entry;
      bodies = there.called;
      thread = thread;
    } in
    let at : ℕ = there.address in
    let front : List Line = front_lines (queue_at app level) at in
    let choices : List Line = choices_from d at (at + 18) in
    dispatches d at (code_behind there.code at (at + 18) front choices refl there.has)
    (code_front there.code at front choices there.has) there.bodies there.rows
