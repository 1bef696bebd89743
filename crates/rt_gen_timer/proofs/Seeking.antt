-- A call by a handle: the section of the timer queue opens, and the message of the task that has the handle is looked
-- for in the heap, from its last position down to the first; or none has it, the section closes, and the answer is 1.
use Rattle.rt_gen_queue.proofs.Vocabulary.{Armed, Bool, Doing, Enters, Entry, Guarded, HasCodeAt}
use Rattle.rt_gen_queue.proofs.Vocabulary.{Location, Leaves, Line, List, Option, Rest, Some, Values, [], act, ap, arith}
use Rattle.rt_gen_queue.proofs.Vocabulary.{message_of_handle, arming_of_entry, armed_messages, armed_place, at}
use Rattle.rt_gen_queue.proofs.Vocabulary.{cases_eq, false}
use Rattle.rt_gen_queue.proofs.Vocabulary.{few_messages, guard_of, handle_at, handle_section_cost, if◌then◌else◌, inl}
use Rattle.rt_gen_queue.proofs.Vocabulary.{inr, is_armed_as, is_some, leave, length, nat_lt, nat_tests, number_of}
use Rattle.rt_gen_queue.proofs.Vocabulary.{plain, refl, slice_index, subst, suc, sym, take, true, zero, ℕ, ◌&&◌, ◌*◌}
use Rattle.rt_gen_queue.proofs.Vocabulary.{◌++◌, ◌+◌, ◌<◌, ◌==◌, ◌^◌, ◌∙◌, ◌∷◌, ◌≡◌, ◌≢◌, ◌≤◌, ◌⊎◌}
use Rattle.rt_ids.specs.declared.ids.Section.TheVariants as section
use Rattle.rt_ids.specs.declared.op.Op.TheVariants as op
use Rattle.rt_code.specs.declared.instr.Instr.TheVariants as instr
use Rattle.rt_gen_queue.proofs.{Numbers.one_less, Numbers.steps_and, Owning.timer_represented, Placing.code_behind}
use Rattle.rt_gen_queue.proofs.{Placing.code_front}
use Rattle.rt_gen_queue.proofs.Entering.{enter_fits, enter_placed, enters, leaves, opened, saves_below, saves_inside}
use Rattle.rt_gen_queue.proofs.Layer.{Here, Now, S, Setting, calculates, copies, ends, is_there, jumps_off, lasts_less}
use Rattle.rt_gen_queue.proofs.Layer.{loads, loads_at, moved, reads_open, sets, stays}
use Rattle.rt_gen_timer.proofs.{Arranged.IsOfHandle, Delaying.rest_is, Opening.may_enter}
use Rattle.rt_gen_timer.proofs.Acting.{Columns, Lasting, Runs, code_first, code_part, count_open, handle_open}
use Rattle.rt_gen_timer.proofs.Acting.{heap_open, run_stands, sooner}
use Rattle.rt_gen_timer.proofs.Calling.{Call, HasCalled, Inside, IsInside, Left, MayCall, at_work, behind_call}
use Rattle.rt_gen_timer.proofs.Calling.{columns_now, entries, f, leaving_code, leaving_fits, may_open, w}
use Rattle.rt_gen_timer.proofs.Represented.{armed_is, found_of, missing_of, own_task, row_of, represented_column}
use Rattle.rt_gen_timer.proofs.Represented.{represented_count}
use Rattle.rt_gen_timer.proofs.Window.{Slots, Words, words}
use Rattle.rt_gen_timer.specs.{TimerCalls.handle_steps, TimerCode.armed_task, TimerCode.queue_of}
use Rattle.rt_gen_timer.specs.TimerLines.{find_lines, handles_of, heap_of, open_lines, own_lines, search_lines}
use Rattle.rt_gen_timer.specs.TimerLines as lines
use Rattle.rt_gen_timer.specs.declared.{armed.ArmedTask.ArmedTask, queue.TimerQueue.TimerQueue}

-- while a message is looked for: the hole, the row of a message, and a slot beside them
abbrev looking : Words → ℕ → ℕ → ℕ → Words
looking w hole place other = record w { one = 1; hole = hole; place = place; other = other }

-- a slot has a value, whatever is in the slots that are written meanwhile
abbrev pub Shows : Words → ℕ → ℕ → Type 0
Shows w s value = (hole place other : ℕ) → slice_index (words (looking w hole place other)) s ≡ value

-- what is looked for: of which task, in which heap, by which slot, and where to go on if there is none
record Search : Type 0 where
  pub queue : TimerQueue
  pub task : ArmedTask
  pub row : Entry → ℕ
  pub handle : Entry → ℕ
  pub heap : List Entry
  pub slot : ℕ
  pub wanted : ℕ
  pub missing : ℕ

-- It may be looked for: the column of the heap has the rows of its messages, that of the handles has theirs by row, and
-- a slot has the one that is wanted.
record MaySearch (z : Setting) (f : Slots) (g : Search) (h : Here) (w : Words) : Type 0 where
  pub code : HasCodeAt z.code h.at
      (search_lines g.queue f.slot g.slot g.missing h.at ++ own_lines g.queue f.slot g.task g.missing)
  pub runs : Runs f (h.done + (6 * length g.heap + 6)) h
  pub small : length g.heap < 2 ^ 32
  pub room : length g.heap ≤ g.queue.messages
  pub there : is_there 24 g.slot ≡ true
  pub shown : Shows w g.slot g.wanted
  pub columns : Columns z g.queue h.held h.cells
  pub column : (j : ℕ) → j < length g.heap → slice_index h.cells (heap_of g.queue + j) ≡ g.row (at g.heap j)
  pub rows : (j : ℕ) → j < length g.heap → g.row (at g.heap j) < g.queue.messages
  pub handles : (j : ℕ) → j < length g.heap
      → slice_index h.cells (handles_of g.queue + g.row (at g.heap j)) ≡ g.handle (at g.heap j)

-- the message at a position in the heap has the handle, and its row is one of the task's
record IsOwned (g : Search) (j : ℕ) : Type 0 where
  pub inside : j < length g.heap
  pub is : g.handle (at g.heap j) ≡ g.wanted
  pub least : g.task.first ≤ g.row (at g.heap j)
  pub less : g.row (at g.heap j) < g.task.first + g.task.rows

-- or none has it, or one whose row is none of the task's
abbrev IsNone : Search → Type 0
IsNone g =
    ((j : ℕ) → j < length g.heap → g.handle (at g.heap j) ≢ g.wanted)
    ⊎ ((j : ℕ) × (j < length g.heap) × (g.handle (at g.heap j) ≡ g.wanted)
    × ((g.row (at g.heap j) < g.task.first) ⊎ (g.task.first + g.task.rows ≤ g.row (at g.heap j))))

-- whether a row is one of a task's, by two tests
owned : (p first last : ℕ)
    → let both : ℕ = number_of (nat_lt (number_of (nat_lt p first)) (number_of (nat_lt p last))) in
    ((both ≡ 1) × (first ≤ p) × (p < last)) ⊎ ((both ≡ 0) × ((p < first) ⊎ (last ≤ p)))
owned p first last = grind (arith, nat_tests)

-- the lines of a turn, whose slots are numbered from the window's first
abbrev turn_lines : Search → ℕ → List Line
turn_lines g at =
    plain (instr.JumpZ 6 g.missing) ∷ plain (instr.Calc op.Sub 6 6 12) ∷ plain (instr.LoadAt 7 (heap_of g.queue) 6)
    ∷ plain (instr.LoadAt 13 (handles_of g.queue) 7) ∷ plain (instr.Calc op.Eq 13 13 g.slot)
    ∷ plain (instr.JumpZ 13 at) ∷ []

module _ {z : Setting} {f : Slots} {g : Search} {h : Here} {w : Words} (may : MaySearch z f g h w) where
  -- what is told after the lines, with the slots of the hole, of the row and two that are worked in written: their
  -- end, with the position and the row, or the address for none
  abbrev Finds : Type 0
  Finds =
      (done j x r : ℕ) → IsOwned g j → done ≤ h.done + (6 * length g.heap + 6)
      → S z (Now f (record h { done = done; at = steps_and 12 h.at })
      (words (record (looking w j (g.row (at g.heap j)) x) { right = r })))

  abbrev Misses : Type 0
  Misses =
      (done j y x r : ℕ) → IsNone g → done ≤ h.done + (6 * length g.heap + 6)
      → S z (Now f (record h { done = done; at = g.missing }) (words (record (looking w j y x) { right = r })))

  -- The loop with the hole at a position: no message from there on has the handle.
  abbrev Searches : ℕ → Type 0
  Searches i =
      (done p o : ℕ) → i ≤ length g.heap → done + 6 * i ≤ h.done + 6 * length g.heap
      → ((j : ℕ) → i ≤ j → j < length g.heap → g.handle (at g.heap j) ≢ g.wanted)
      → S z (Now f (record h { done = done }) (words (looking w i p o)))

  module _ (found : Finds) (none : Misses) where
    -- a message has the handle: whether its row is one of the task's
    owns : (done j x : ℕ) → done ≤ h.done + 6 * length g.heap → j < length g.heap
        → g.handle (at g.heap j) ≡ g.wanted
        → S z (Now f (record h { done = done; at = steps_and 6 h.at }) (words (looking w j (g.row (at g.heap j)) x)))
    owns done j x soon inside is =
        let p : ℕ = g.row (at g.heap j) in
        let last : ℕ = g.task.first + g.task.rows in
        let below : ℕ = number_of (nat_lt p g.task.first) in
        let both : ℕ = number_of (nat_lt below (number_of (nat_lt p last))) in
        run_stands (record h { done = done; at = steps_and 6 h.at }) (looking w j p x)
        (own_lines g.queue 0 g.task g.missing) may.runs (omega arith) refl
        (code_behind z.code h.at (steps_and 6 h.at) (search_lines g.queue f.slot g.slot g.missing h.at)
        (own_lines g.queue f.slot g.task g.missing) (omega arith) may.code)
        (sets
        (calculates (number_of (nat_lt p last)) refl
        (sets
        (calculates below refl
        (calculates both refl
        (elim (owned p g.task.first last) [
          | inl (one, least, less) ↦
              stays (omega (arith, one))
              (ends
              (found (steps_and 6 done) j both below
              (record { inside = inside; is = is; least = least; less = less }) (omega arith)))
          | inr (off, out) ↦
              jumps_off off (none (steps_and 6 done) j p both below (inr (j, inside, is, out)) (omega arith))
        ]))))))

    -- no position is left
    none_left : Searches 0
    none_left done p o inside soon others =
        run_stands (record h { done = done }) (looking w 0 p o) (take 1 (turn_lines g h.at)) may.runs (omega arith) refl
        (may.code.0, tt)
        (jumps_off refl (none (suc done) 0 p o w.right (inl (λ j less. others j (omega arith) less)) (omega arith)))

    -- One turn: the position before the hole has the handle, or the others are searched.
    turn : {i : ℕ} → Searches i → Searches (suc i)
    turn {i = i} again done p o inside soon others =
        let r : ℕ = g.row (at g.heap i) in
        let has : ℕ = g.handle (at g.heap i) in
        let is : ℕ = number_of (has == g.wanted) in
        run_stands (record h { done = done }) (looking w (suc i) p o) (turn_lines g h.at) may.runs (omega arith)
        (ap (λ b. b && true) may.there)
        (code_front z.code h.at (search_lines g.queue f.slot g.slot g.missing h.at)
        (own_lines g.queue f.slot g.task g.missing) may.code)
        (stays (omega arith)
        (calculates i (one_less i (omega (arith, may.small)))
        (loads_at i r refl (reads_open (heap_open may.columns (omega (arith, may.room))) (may.column i inside))
        (loads_at r has refl (reads_open (handle_open may.columns (may.rows i inside)) (may.handles i inside))
        (calculates is (ap (λ v. number_of (has == v)) (may.shown i r has))
        (elim (cases_eq has g.wanted) [
          | inl same ↦
              (let e : is ≡ 1 = (let b : (has == g.wanted) ≡ true = grind (arith, nat_tests) in ap number_of b) in
              stays (omega (arith, e)) (ends (owns (steps_and 6 done) i is (omega arith) inside same)))
          | inr apart ↦
              (let e : is ≡ 0 = (let b : (has == g.wanted) ≡ false = grind (arith, nat_tests) in ap number_of b) in
              jumps_off e
              (again (steps_and 6 done) r is (omega arith) (omega arith)
              (λ j least less.
              elim (cases_eq j i) [
                | inl this ↦ subst (λ k. g.handle (at g.heap k) ≢ g.wanted) (omega (arith, this)) apart
                | inr other ↦ others j (omega (arith, other)) less
              ])))
        ]))))))

    -- the loop, by the positions that are left
    searches : (i : ℕ) → Searches i
    searches zero = none_left
    searches (suc i) = turn (searches i)

    -- The message of a handle is looked for from after the last position on, and whether it is the task's.
    finds_stand : S z (Now f h (words (looking w (length g.heap) w.place w.other)))
    finds_stand =
        searches (length g.heap) h.done w.place w.other (omega arith) (omega arith)
        (λ j most less. absurd (omega arith))

-- the words where the section has opened, with so many messages in the heap
abbrev pub opened_words : Words → ℕ → ℕ → Words
opened_words w mask n = record w { mask = mask; one = 1; two = 2; count = n; hole = n }

-- the handle, the slot of the window that has it, after how many lines those stand for where none has it, and what is
-- left to do where one has it
pub record Sought : Type 0 where
  pub handle : ℕ
  pub slot : ℕ
  pub missing : ℕ
  pub found : Rest

-- so the call begins
pub record MaySeek (c : Call) (h : Here) (k : Sought) : Type 0 where
  pub may : MayCall c (handle_steps c.z.app) h
  pub code : HasCodeAt c.z.code h.at
      (find_lines (queue_of c.z.app) c.slot c.threshold (armed_task c.z.app c.task) k.slot (h.at + k.missing) h.at)
  pub none : HasCodeAt c.z.code (h.at + k.missing)
      (lines.leave_timer (queue_of c.z.app) c.slot c.threshold ∷ lines.set (queue_of c.z.app) c.slot 0 1 ∷ [])
  pub known : is_there 24 k.slot ≡ true
  pub shown : (mask n : ℕ) → Shows (opened_words (w may) mask n) k.slot k.handle
  pub is : h.rest
      ≡ act (Enters section.Timer (handle_section_cost c.z.app))
      (λ vs. if is_armed_as c.z.app c.task k.handle vs then k.found vs else act (Leaves section.Timer) (c.rest 1) vs)
      c.values

-- what was taken over where the section opened
pub record Taken : Type 0 where
  pub mask : ℕ
  pub values : Values
  pub cells : List ℕ
  pub queues : Location → List Entry

module _ {c : Call} {h : Here} {k : Sought} (seek : MaySeek c h k) where
  -- inside the section, with what was taken over
  abbrev pub seen : Taken → Inside
  seen o = record {
    z = c.z;
    f = f seek.may;
    threshold = c.threshold;
    cost = handle_section_cost c.z.app;
    h = h;
    before = c.values;
    cells = o.cells;
    queues = o.queues;
    values = o.values;
  }

  -- there are these steps for what is in the section
  pub runs_seen : Lasting (f seek.may) (h.done + (128 + 96 * armed_messages c.z.app))
      (opened c.z (f seek.may) section.Timer c.threshold ∷ h.held)
      (h.until ∷ (h.done + handle_section_cost c.z.app) ∷ h.deadlines)
  runs_seen =
      let last : ℕ = h.done + (128 + 96 * armed_messages c.z.app) in
      let all = lasts_less last (h.done + handle_steps c.z.app) (h.until ∷ h.deadlines) (omega arith) seek.may.time in
      record { time = (all.0, (omega arith, all.1)); saves = saves_inside (may_enter (may_open seek.may)) }

  -- and these for the call
  pub runs_call : Runs (f seek.may) (h.done + handle_steps c.z.app) h
  runs_call = record { time = seek.may.time; saves = saves_below (f seek.may) h.held seek.may.masks }

  -- The message of the handle is at a position in the heap.
  pub record IsSeen (o : Taken) (done j : ℕ) : Type 0 where
    pub now : IsInside (seen o)
    pub inside : j < length now.represents.heap
    pub of_task : (at now.represents.heap j).task ≡ c.task
    pub found : IsOfHandle (arming_of_entry c.z.app (slice_index o.cells)) (entries (seen o)) (at now.represents.heap j)
        c.task
        k.handle
    pub early : done ≤ h.done + (6 * armed_messages c.z.app + 12)

  -- the words there
  abbrev found_words : (o : Taken) → IsInside (seen o) → ℕ → ℕ → ℕ → ℕ → Words
  found_words o now j row x r =
      record (looking (opened_words (w seek.may) o.mask (length now.represents.heap)) j row x) { right = r }

  abbrev pub seen_words : {o : Taken} {done j : ℕ} → IsSeen o done j → (x r : ℕ) → Words
  seen_words {o = o} {j = j} is x r = found_words o is.now j (armed_place c.z.app (at is.now.represents.heap j)) x r

  -- the job in the section
  abbrev here : Taken → (done at : ℕ) → Doing Values → Here
  here o done at rest = at_work (seen o) done at h.places o.cells o.queues rest

  -- what is left to do there, by whether one has the handle
  abbrev follow : Values → Bool → Doing Values
  follow vs b = if b then k.found vs else act (Leaves section.Timer) (c.rest 1) vs

  abbrev to_do : Taken → Doing Values
  to_do o = follow o.values (is_armed_as c.z.app c.task k.handle o.values)

  -- what is told where one has it, and where none has it, after the call
  abbrev pub OnSeen : Type 0
  OnSeen =
      (o : Taken) (done j x r : ℕ) (is : IsSeen o done j)
      → S c.z (Now (f seek.may) (here o done (h.at + 17) (k.found o.values)) (words (seen_words is x r)))

  abbrev pub OnNone : Type 0
  OnNone =
      (b : Left) → HasCalled c.z h c.values (handle_steps c.z.app) 1 b
      → S c.z (Now (f seek.may) (behind_call h (h.at + k.missing + 2) (c.rest 1) b) (words b.words))

  -- None has the handle: the section closes, and the answer is 1.
  closes : (o : Taken) {done : ℕ} (v : Words) → IsInside (seen o) → done ≤ h.done + (6 * armed_messages c.z.app + 12)
      → OnNone → S c.z (Now (f seek.may) (here o done (h.at + k.missing) (follow o.values false)) (words v))
  closes o {done = done} v now early missed =
      let behind : List Line = plain (instr.Set 0 1) ∷ [] in
      run_stands (here o done (h.at + k.missing) (follow o.values false)) v
      (leave c.z.app section.Timer c.threshold 9 ∷ behind) runs_seen (omega (arith, early))
      (leaving_fits c.z.app c.threshold [] behind refl refl)
      (leaving_code c.z (f seek.may) c.threshold (h.at + k.missing) [] behind seek.none)
      (leaves c.threshold refl refl refl now.taken.represented
      (λ us later.
      sets
      (ends
      (moved (steps_and 2 done) (h.at + k.missing + 2) refl (omega arith)
      (missed _
      (record {
        small = omega arith;
        answered = refl;
        in_time = omega (arith, early);
        own = record {
          long = now.taken.same.long;
          touched = now.taken.same.touched;
          queued = now.taken.same.queued;
        };
        agree = λ location read. later location read ∙ now.taken.agree location read;
      }))))))

  -- Once the section has opened the message is looked for.
  looks : (o : Taken) (now : IsInside (seen o)) → OnSeen → OnNone
      → S c.z (Now (f seek.may) (here o (steps_and 5 h.done) (h.at + 5) (to_do o))
      (words (opened_words (w seek.may) o.mask (length now.represents.heap))))
  looks o now on missed =
      let s = now.represents in
      let few : length s.heap ≤ armed_messages c.z.app = omega (arith, s.arranged.long, s.room) in
      let g : Search = record {
        queue = queue_of c.z.app;
        task = armed_task c.z.app c.task;
        row = armed_place c.z.app;
        handle = handle_at c.z.app (slice_index o.cells);
        heap = s.heap;
        slot = k.slot;
        wanted = k.handle;
        missing = h.at + k.missing;
      } in
      finds_stand {z = c.z} {f = f seek.may} {g = g} {h = here o (steps_and 5 h.done) (h.at + 5) (to_do o)}
      {w = opened_words (w seek.may) o.mask (length s.heap)}
      (record {
        code = code_part c.z.code h.at (find_lines g.queue c.slot c.threshold g.task k.slot g.missing h.at) 5 12
            seek.code;
        runs = sooner runs_seen (omega (arith, few));
        small = omega (arith, few, few_messages c.z.app seek.may.facts.accepted);
        room = few;
        there = seek.known;
        shown = seek.shown o.mask (length s.heap);
        columns = columns_now now refl;
        column = represented_column s;
        rows = row_of s;
        handles = λ j inside. refl;
      })
      (λ done j x r one early.
      let of_task : (at s.heap j).task ≡ c.task =
      own_task s c.task seek.may.facts.at j one.inside one.least one.less in
      let found = found_of s j k.handle one.inside one.is of_task in
      let as_armed = ap (message_of_handle c.task k.handle) (armed_is s) ∙ found.found in
      moved done (h.at + 17) refl (omega arith)
      (rest_is (k.found o.values) (ap (λ (a : Option Armed). follow o.values (is_some a)) as_armed)
      (on o done j x r
      (record {
        now = now;
        inside = one.inside;
        of_task = of_task;
        found = found;
        early = omega (arith, early, few);
      }))))
      (λ done j y x r none early.
      rest_is (follow o.values false)
      (ap (λ (a : Option Armed). follow o.values (is_some a)) (missing_of s c.task k.handle none))
      (closes o (found_words o now j y x r) now (omega (arith, early, few)) missed))

  -- The lines stand, where those after them do for the message, and those after all of the call where there is none.
  pub seeks : OnSeen → OnNone → S c.z (Now (f seek.may) h (words (w seek.may)))
  seeks on missed =
      let x = section.Timer in
      let front : HasCodeAt c.z.code h.at (open_lines (queue_of c.z.app) c.slot c.threshold) =
      code_first c.z.code 5 h.at
      (find_lines (queue_of c.z.app) c.slot c.threshold (armed_task c.z.app c.task) k.slot (h.at + k.missing) h.at)
      seek.code in
      run_stands h (w seek.may) (open_lines (queue_of c.z.app) 0 c.threshold) runs_call (omega arith)
      (ap (λ b. b && true) (enter_fits x (guard_of c.z.app x) c.threshold 9 24 9))
      (front.0 ∙ ap Some (sym (enter_placed x (guard_of c.z.app x) c.threshold 9 c.slot)), front.1)
      (enters (may_enter (may_open seek.may)) (omega arith) seek.is
      (λ mask vs cells queues taken.
      let o : Taken = record { mask = mask; values = vs; cells = cells; queues = queues } in
      let now : IsInside (seen o) = record {
        may = may_open seek.may;
        long = seek.may.cells;
        taken = taken;
        represents = timer_represented c.z.app (slice_index cells) (queues (Guarded x))
            (vs (Guarded x)) taken.represented;
      } in
      sets
      (sets
      (loads (length now.represents.heap)
      (reads_open (count_open (columns_now now refl)) (represented_count now.represents))
      (copies
      (ends (moved (steps_and 5 h.done) (h.at + 5) refl (omega arith) (looks o now on missed))))))))
