-- What a dispatcher does once the oldest message is that of one of its tasks: it starts the message, gives its place
-- back, calls the body and returns.
use Rattle.rt_gen_queue.proofs.Vocabulary.{AreRepresented, AtPriority, BodyRow, Content, Ends, Enters, Entry, FREE_COST}
use Rattle.rt_gen_queue.proofs.Vocabulary.{Frees}
use Rattle.rt_gen_queue.proofs.Vocabulary.{Guarded, Location, Leaves, Line, List, Marked, Message, Messages, None}
use Rattle.rt_gen_queue.proofs.Vocabulary.{Number}
use Rattle.rt_gen_queue.proofs.Vocabulary.{Option, Posts, Rest, Returns, Section, Some, RepresentsFree, RepresentsReady}
use Rattle.rt_gen_queue.proofs.Vocabulary.{Stands}
use Rattle.rt_gen_queue.proofs.Vocabulary.{Task, Values, [], act, act_all, and_left, and_right, ap, arith, body_cost}
use Rattle.rt_gen_queue.proofs.Vocabulary.{caller_frame, calm, cost_measure, count, dispatcher_number, drop}
use Rattle.rt_gen_queue.proofs.Vocabulary.{effect as action_effect, eq-eqb, eqb-true, false, free_at, inl, inr}
use Rattle.rt_gen_queue.proofs.Vocabulary.{is_software, length, map, message_at, messages, nat_tests, none-some}
use Rattle.rt_gen_queue.proofs.Vocabulary.{line_with_note}
use Rattle.rt_gen_queue.proofs.Vocabulary.{nothing, number, operate, or_left, queue_at, queued_more, refl, row_for}
use Rattle.rt_gen_queue.proofs.Vocabulary.{rows_for, same_Some, slice_get, slice_index, start_doing, storage, subst}
use Rattle.rt_gen_queue.proofs.Vocabulary.{suc, sym, take, take-append-le, true, with_queue, zero, zero-add, ℕ, ◌+◌}
use Rattle.rt_gen_queue.proofs.Vocabulary.{◌-◌, ◌<◌, ◌==◌, ◌∙◌, ◌∷◌, ◌≡◌, ◌≤◌}
use Rattle.std.proofs.lemmas.Bool.{cases_Bool}
use Rattle.rt_actions.specs.Action.{Starts}
use Rattle.rt_ids.specs.declared.ids.BodyId.TheVariants as body
use Rattle.rt_ids.specs.declared.ids.Section.TheVariants as section
use Rattle.rt_ids.specs.declared.op.Op.TheVariants as op
use Rattle.rt_app.specs.Doings.{task_doing}
use Rattle.rt_code.specs.Tables.{arguments_in}
use Rattle.rt_code.specs.declared.instr.Instr.TheVariants as instr
use Rattle.rt_code.specs.declared.instr.Note.TheVariants as note
use Rattle.rt_gen_queue.proofs.{Entering.enters, Entering.leaves, Layer.Correct.does as asks, Numbers.added}
use Rattle.rt_gen_queue.proofs.{Places.IsPlaceOf, Places.entry_at}
use Rattle.rt_gen_queue.proofs.Facts.{Spawned, capacity, few_arguments, few_free, free_top, priority as own_priority}
use Rattle.rt_gen_queue.proofs.Layer.{Here, Now, Straight, acts_later, begins, by_noted, calculates, calls_here, loads}
use Rattle.rt_gen_queue.proofs.Layer.{mark_gives, next_in_time, posts, reads_open, returns_here, skips_off, stays}
use Rattle.rt_gen_queue.proofs.Layer.{stores_at, writes_open}
use Rattle.rt_gen_queue.proofs.Owning.{free_back, free_represented, put_here, queue_here}
use Rattle.rt_gen_queue.proofs.Returning.{Returned, free_home, frees, given_back, room_left}
use Rattle.rt_gen_queue.specs.Called.{CalledAtLevel, CalledTaskStands}
use Rattle.rt_gen_disp.{proofs.Sizes.IsTask, specs.Code.callee_of, specs.Code.start_lines}
use Rattle.rt_gen_disp.proofs.Dispatchers.{Dispatcher, Moment, Represented, alone, job, outside, rows, within}
use Rattle.rt_gen_disp.proofs.Kept.{for_ready, may_enter, open_here, reads_here, represented_agreed, represented_put}
use Rattle.rt_gen_disp.proofs.Kept.{represented_taken, represented_written}
use Rattle.rt_gen_disp.proofs.Words.{Words, firsts, frame_begins, frame_fits, frame_long, own, words}

-- how many arguments a software task takes, as the rows of bodies tell it
arguments_from : (entry : ℕ → ℕ) (n k : ℕ) (ts : List Task) (t : Task) → slice_get ts k ≡ Some t → is_software t ≡ true
    → arguments_in (rows_for entry n ts) (n + k) ≡ t.args
arguments_from entry n k [] t at software = absurd (none-some t at)
arguments_from entry n zero (u ∷ ts) t at software =
    let here : (n == n + 0) ≡ true = eq-eqb n (n + 0) (omega arith) in rw (same_Some u t at, software, here) refl
arguments_from entry n (suc k) (u ∷ ts) t at software =
    let next : n + 1 + k ≡ n + suc k = omega arith in
    let rest = rw next at (arguments_from entry (n + 1) k ts t at software) in
    let other : (n == n + suc k) ≡ false = grind (arith, nat_tests) in
    elim (cases_Bool (is_software u)) [
      | inl passes ↦ rw (passes, other) rest
      | inr fails ↦ rw fails rest
    ]

-- the oldest message of a level as memory has it
pub record IsOldest (d : Dispatcher) (cells : List ℕ) (queues : Location → List Entry) (vs : Values) (o : Entry)
    (es : List Entry) : Type 0 where
  pub represented : AreRepresented d.app d.level cells queues vs
  pub queue : queues (Guarded (section.Ready d.level)) ≡ o ∷ es
  pub content : vs (Guarded (section.Ready d.level)) ≡ Messages (map (message_at d.app (slice_index cells)) (o ∷ es))
  pub rest : RepresentsReady d.app (slice_index cells) d.level es
      (Messages (map (message_at d.app (slice_index cells)) es))
  pub placed : IsPlaceOf d.app d.level o

-- the task of the oldest message, and the message's place and arguments
pub record Chosen (d : Dispatcher) : Type 0 where
  pub number : ℕ
  pub task : Task
  pub row : ℕ
  pub is : IsTask d.app d.level d.entry number row task
  pub place : ℕ
  pub less : place < task.capacity
  pub args : List ℕ

-- the message is what the words of the frame tell
pub record Holds {d : Dispatcher} (c : Chosen d) (begin : List ℕ) (unit number : ℕ) : Type 0 where
  pub arguments : c.args ≡ take c.task.args begin
  pub one : unit ≡ 1
  pub place : number ≡ c.place

module _ {d : Dispatcher} (c : Chosen d) where
  abbrev pub HoldsIn : Words → Type 0
  HoldsIn w = Holds c (firsts w) w.one w.place

  abbrev pub entry_of : Entry
  entry_of = entry_at c.number c.place

  abbrev pub message_of : Message
  message_of = record { task = c.number; args = c.args }

  abbrev pub cost_of_body : ℕ
  cost_of_body = body_cost (cost_measure d.app) c.task.body

  -- its lines from its start on
  abbrev pub own_lines : ℕ → List Line
  own_lines at = start_lines (queue_at d.app d.level) (callee_of d.app c.number c.row c.task) at

  -- the sections of its free places and of the ready queue
  abbrev free : Section
  free = section.Free c.number

  abbrev ready : Section
  ready = section.Ready d.level

  abbrev Kept : Moment → Values → Type 0
  Kept m vs = AreRepresented d.app d.level m.cells m.queues vs

  -- what is left to do after the start of a message
  abbrev behind : Rest
  behind = act_all (Returns ∷ []) nothing

  abbrev body_rest : Rest
  body_rest = task_doing d.app c.number c.args (act (Ends (body.Task c.number)) behind)

  abbrev give_rest : Rest
  give_rest = act_all (Frees c.number ∷ Leaves free ∷ []) body_rest

  abbrev leave_rest : Rest
  leave_rest = act (Leaves ready) (act (Enters free FREE_COST) give_rest)

  facts : Spawned d.app c.number c.task
  facts =
      let software = and_left (is_software c.task) (c.task.priority == d.level) c.is.of in
      record { accepted = d.accepted; at = c.is.at; software = software }

  level_is : c.task.priority ≡ d.level
  level_is = eqb-true c.task.priority d.level (and_right (is_software c.task) (c.task.priority == d.level) c.is.of)

  body_stands : CalledAtLevel d.app c.number d.level c.task d.code (row_for d.entry c.number c.task)
  body_stands =
      subst (λ (q : ℕ). CalledAtLevel d.app c.number q c.task d.code (row_for d.entry c.number c.task)) level_is
      (subst (λ (o : Option Task). CalledTaskStands d.app c.number o d.code (row_for d.entry c.number c.task)) c.is.at
      (d.bodies c.number c.task c.is.at c.is.of))

  -- the body runs, and the dispatcher returns
  call_run : {m : Moment} {w : Words} {vs : Values} → 2 + cost_of_body + m.done ≤ m.until → HoldsIn w → Kept m vs
      → Straight (job d) own (drop 10 (own_lines 0)) (outside m [] (body_rest vs)) (words w)
  call_run {m = m} {w = w} {vs = vs} enough holds represented = record {
    runs = λ run has.
        let called : BodyRow = row_for d.entry c.number c.task in
        let back : List ℕ = caller_frame (words w) (suc m.at) in
        let few : c.task.args ≤ 4 = few_arguments d.app c.number c.task facts in
        let fits : c.task.args ≤ called.frame = omega arith in
        let left : ℕ = (m.until - m.done) - 1 in
        let steps : ℕ = m.until - suc m.done - cost_of_body in
        let steps_are : cost_of_body + steps ≡ m.until - suc m.done = omega arith in
        let all_fit = frame_fits w called few fits in
        calls_here called has.0 (next_in_time run)
        (record { own = refl; is_there = c.is.there; closed = refl; some = omega arith; fits = all_fit })
        (λ inner alike. let args_are : take c.task.args inner ≡ c.args =
        alike.1 ∙ frame_begins w called few fits (suc m.at) ∙ sym holds.arguments in
        subst (λ k. Stands (storage d.app) d.code (rows d) d.thread (AtPriority d.level) k
        (calm left inner (Some back) called.entry m.cells m.queues (body_rest vs))) steps_are
        (subst (λ given. Stands (storage d.app) d.code (rows d) d.thread (AtPriority d.level) (cost_of_body + steps)
        (calm left inner (Some back) called.entry m.cells m.queues
        (task_doing d.app c.number given (act (Ends (body.Task c.number)) behind) vs))) args_are
        (body_stands (rows d) d.thread steps back behind
        (λ left ending cells queues vs less same represented.
        begins (calm left ending None (suc m.at) cells queues (behind vs)) steps
        (returns_here has.1.0 (omega arith, (omega arith, tt)) refl refl refl refl
        (λ location kept. represented.each location (or_left _ _ kept))))
        left inner m.cells m.queues vs (omega arith) (alike.0 ∙ frame_long w called few fits (suc m.at))
        represented)));
  }

  -- in the section of the free places the place is given back
  give_run : {m : Moment} {w : Words} {vs : Values} {deadline : ℕ} → 7 + cost_of_body + m.done ≤ m.until → HoldsIn w
      → Kept m vs → Represented d free m.cells m.queues vs
      → ((y : Entry) → count y (entry_of ∷ []) + count y (m.queues (Guarded free)) ≤ 1)
      → Straight (job d) own (drop 5 (own_lines 0)) (within d free deadline m (entry_of ∷ []) (give_rest vs)) (words w)
  give_run {m = m} {w = w} {vs = vs} enough holds represented represents once =
      let entries : List Entry = m.queues (Guarded free) in
      let was : Content = vs (Guarded free) in
      let its = free_represented d.app c.number (slice_index m.cells) entries was represents in
      let known : Returned d.app c.number c.task m.cells entries c.place =
      record { task = facts; long = represented.long; content = was; represents = its; less = c.less; once = once } in
      let room = room_left known in
      let few = few_free d.app c.number c.task facts in
      let count_home = free_home known (free_at d.app c.number) 0 (omega arith) (omega arith) in
      let place_home =
      free_home known (free_at d.app c.number + 1 + length entries) (suc (length entries)) (omega arith) room in
      let few_entries : suc (length entries) ≤ 16 = omega (arith, capacity d.app c.number c.task facts) in
      loads (length entries)
      (reads_open (record { opens = open_here d free; long = represented.long; home = count_home })
      known.represents.count)
      (stores_at (length entries) c.place refl holds.place
      (writes_open (record { opens = open_here d free; long = represented.long; home = place_home }))
      (λ placed first.
      calculates (suc (length entries))
      (ap (operate op.Add (length entries)) holds.one ∙ added (length entries) 1 (suc (length entries)) (omega arith)
      (omega arith))
      (frees (suc (length entries)) refl
      (writes_open (record { opens = open_here d free; long = first.long ∙ represented.long; home = count_home }))
      (record { opens = open_here d free; hands = refl; of_task = refl; doing = refl })
      (λ given ws second agree.
      let is = given_back known placed given first second in
      let later : Location → List Entry = with_queue m.queues free (entry_of ∷ entries) in
      let us : Values = action_effect (Frees c.number) ws in
      let content : us (Guarded free) ≡ Number (number (vs (Guarded free)) - 1) =
      put_here d.app (AtPriority d.level) ws free (Number (number (ws (Guarded free)) - 1))
      ∙ ap (λ c. Number (number c - 1)) (agree (Guarded free) (reads_here d free)) in
      let kept : AreRepresented d.app d.level given later us =
      represented_put free (Number (number (ws (Guarded free)) - 1)) tt
      (represented_agreed (alone d free) (represented_written free tt represented is.long is.elsewhere) agree) in
      leaves d.level refl refl refl
      (subst (λ es. (storage d.app).Represents (Guarded free) (slice_index given) es (us (Guarded free)))
      (sym (queue_here d.app (AtPriority d.level) m.queues free (entry_of ∷ entries)))
      (free_back (slice_index m.cells) entries (vs (Guarded free)) represents
      (subst (λ c'. RepresentsFree d.app (slice_index given) c.number (entry_of ∷ entries) c')
      (sym content) is.represents)))
      (λ zs agree_too. call_run (omega arith) holds (represented_agreed [] kept agree_too))))))

  free_run : {m : Moment} {w : Words} {vs : Values} → 8 + cost_of_body + m.done ≤ m.until → HoldsIn w → Kept m vs
      → Straight (job d) own (drop 4 (own_lines 0))
      (outside m (entry_of ∷ []) (act (Enters free FREE_COST) give_rest vs)) (words w)
  free_run enough holds represented =
      enters
      (may_enter d free refl tt (free_top d.app c.number c.task facts)
      (omega (arith, own_priority d.app c.number c.task facts, level_is)))
      (omega arith) refl
      (λ v ws others queues taken.
      give_run (omega arith) holds (represented_taken free taken represented) taken.represented
      (λ y. omega (arith, taken.once y, queued_more queues y (record { section = free; kind = Marked }) [])))

  -- out of the section of the ready queue
  leave_run : {m : Moment} {w : Words} {vs : Values} {deadline : ℕ} → 9 + cost_of_body + m.done ≤ m.until → HoldsIn w
      → Kept m vs → Represented d ready m.cells m.queues vs → Straight (job d) own (drop 3 (own_lines 0))
      (within d ready deadline m (entry_of ∷ []) (leave_rest vs)) (words w)
  leave_run enough holds represented represents =
      leaves d.level refl refl refl represents
      (λ ws agree. free_run (omega arith) holds (represented_agreed [] represented agree))

  -- it starts, and the lines after it go on with its place in the hands
  started : {m : Moment} {w : Words} {vs : Values} {deadline : ℕ} {es : List Entry} {lines : List Line}
      (rest : Rest) → IsOldest d m.cells m.queues vs entry_of es → HoldsIn w
      → ((ws : Values) (queues : Location → List Entry) → AreRepresented d.app d.level m.cells queues ws
      → Represented d ready m.cells queues ws → Straight (job d) own lines
      (within d ready deadline (record m { done = suc m.done; at = suc m.at; queues = queues })
      (entry_of ∷ []) (rest ws)) (words w))
      → Straight (job d) own (line_with_note instr.Mark (note.Start c.number 0) ∷ lines)
      (within d ready deadline m [] (act (Starts d.level message_of) rest vs)) (words w)
  started {m = m} {w = w} {vs = vs} {deadline = deadline} {es = es} rest oldest holds on =
      let h : Here = Now own (within d ready deadline m [] (act (Starts d.level message_of) rest vs)) (words w) in
      let few : c.task.args ≤ 4 = few_arguments d.app c.number c.task facts in
      let known : arguments_in (rows d) c.number ≡ c.task.args =
      rw zero-add at (arguments_from d.entry 0 c.number d.app.tasks c.task c.is.at facts.software) in
      let later : Location → List Entry = with_queue m.queues ready es in
      by_noted (λ run has. asks {h = h} (Some (note.Start c.number 0)) mark_gives (record {
        level = d.level;
        message = message_of;
        entry = entry_of;
        others = es;
        inside = open_here d ready;
        first = oldest.queue;
        of_task = (refl, refl);
        fits = omega (arith, known, few);
        shown =
            subst (λ k. c.args ≡ take k (words w)) (sym known)
            (holds.arguments ∙ sym (take-append-le c.task.args (firsts w) (drop 4 (words w)) few));
        acts = acts_later (Starts d.level message_of) (words w) refl run has refl (λ ws agree.
            let us : Values = action_effect (Starts d.level message_of) ws in
            let first_off : Values → Content = λ vs. Messages (drop 1 (messages (vs (Guarded ready)))) in
            let was = agree (Guarded ready) (reads_here d ready) ∙ oldest.content in
            let content : us (Guarded ready) ≡ Messages (map (message_at d.app (slice_index m.cells)) es) =
            put_here d.app (AtPriority d.level) ws ready (first_off ws)
            ∙ ap (λ c. Messages (drop 1 (messages c))) was in
            on us later
            (represented_put ready (first_off ws) tt (represented_agreed (alone d ready) oldest.represented agree))
            (subst (λ xs. (storage d.app).Represents (Guarded ready) (slice_index m.cells) xs (us (Guarded ready)))
            (sym (queue_here d.app (AtPriority d.level) m.queues ready es))
            (for_ready d (slice_index m.cells) es (us (Guarded ready))
            (subst (λ c'. RepresentsReady d.app (slice_index m.cells) d.level es c') (sym content) oldest.rest))));
      }))

  -- and where more are ready the dispatcher is pended again
  pub start_run : {m : Moment} {w : Words} {vs : Values} {deadline : ℕ} (es : List Entry)
      → 12 + cost_of_body + m.done ≤ m.until → IsOldest d m.cells m.queues vs entry_of es → HoldsIn w
      → w.left ≡ length es
      → Straight (job d) own (own_lines m.at) (within d ready deadline m []
      (start_doing d.app d.level (message_of ∷ map (message_at d.app (slice_index m.cells)) es) vs)) (words w)
  start_run [] enough oldest holds left =
      started leave_rest oldest holds
      (λ ws queues represented represents. skips_off 1 (omega arith) left
      (leave_run (omega arith) holds represented represents))
  start_run {m = m} (o ∷ es) enough oldest holds left =
      started (act (Posts (dispatcher_number d.app d.level)) leave_rest) oldest holds
      (λ ws queues represented represents.
      stays (omega (arith, left))
      (posts refl
      (λ zs agree.
      leave_run (omega arith) holds (represented_agreed (alone d ready) represented agree)
      (subst (λ content. (storage d.app).Represents (Guarded ready) (slice_index m.cells)
      (queues (Guarded ready)) content)
      (sym (agree (Guarded ready) (reads_here d ready))) represents))))
