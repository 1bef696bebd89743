-- The task of the oldest message is looked for among the tasks of its level, and its message is run.
use Rattle.rt_gen_queue.proofs.Vocabulary.{Bool, Entry, HasCodeAt, Location, KeepsTaskLimits, Line, List, Message, None}
use Rattle.rt_gen_queue.proofs.Vocabulary.{Section, Some, Task, Values, [], all_at, all_from, and_left, ap, arith}
use Rattle.rt_gen_queue.proofs.Vocabulary.{body_cost, capacity_is, capacity_of, cost_measure, count, count_more, drop}
use Rattle.rt_gen_queue.proofs.Vocabulary.{eqb-true, false, filter, greatest, guard_of, if◌then◌else◌, input_is_home}
use Rattle.rt_gen_queue.proofs.Vocabulary.{inputs_at, inr, is_of_level, is_software, layout, length, map, message_at}
use Rattle.rt_gen_queue.proofs.Vocabulary.{mine, nat_tests, number_of, one_itself, operate, option_map, or_zero, plain}
use Rattle.rt_gen_queue.proofs.Vocabulary.{queue_at, range_with_len, refl, same_Some, slice_get, slice_index}
use Rattle.rt_gen_queue.proofs.Vocabulary.{start_doing, subst, suc, sym, take, take-append-le, the_task, true, ℕ, ◌*◌}
use Rattle.rt_gen_queue.proofs.Vocabulary.{◌++◌, ◌+◌, ◌-◌, ◌<◌, ◌==◌, ◌∙◌, ◌∷◌, ◌≡◌, ◌≢◌, ◌≤◌}
use Rattle.std.specs.Prelude.{count_by}
use Rattle.rt_ids.proofs.Greatest.{greatest_has}
use Rattle.rt_ids.specs.declared.ids.Section.TheVariants as section
use Rattle.rt_ids.specs.declared.op.Op.TheVariants as op
use Rattle.rt_code.proofs.Mine.{queue_counts}
use Rattle.rt_code.specs.declared.instr.Instr.TheVariants as instr
use Rattle.rt_gen_queue.proofs.{Numbers.steps_and, Placing.code_behind, Placing.code_front, Planned.lines_by_layout}
use Rattle.rt_gen_queue.proofs.Entering.{enter_fits, enter_placed, leave_fits, leave_placed}
use Rattle.rt_gen_queue.proofs.Layer.{Here, S, Saves, Straight, all_fit, calculates, ends, jumps_off, placed, sets}
use Rattle.rt_gen_queue.proofs.Layer.{configuration, stays}
use Rattle.rt_gen_queue.specs.declared.queue.ReadyQueue.{ReadyQueue}
use Rattle.rt_gen_disp.proofs.{Lasts.last_past, Kept.open_here, Loading.AreLoaded, Loading.Spread}
use Rattle.rt_gen_disp.proofs.{Loading.all_load, Running.Chosen, Running.IsOldest, Running.start_run, Sizes.IsTask}
use Rattle.rt_gen_disp.proofs.{Sizes.choice_long, Sizes.choices_grow}
use Rattle.rt_gen_disp.proofs.Dispatchers.{Dispatcher, alone, job, rows, within}
use Rattle.rt_gen_disp.proofs.Words.{Words, firsts, only_mask, own, times, words, words_are, words_of}
use Rattle.rt_gen_disp.specs.Code.{argument_lines, callee_of, choice_code, choices_code, exit_of, next_for, start_lines}
use Rattle.rt_gen_disp.specs.declared.{called.Called.Called, lines.Exit.Exit}

-- the lines from the start of a message on, as a run on the frame
start_placed : (q : ReadyQueue) (c : Called) (at : ℕ) → start_lines q c at ≡ map (placed 0) (start_lines q c at)
start_placed q c at =
    let x : Section = section.Ready q.level in
    let y : Section = section.Free c.task in
    let p : ℕ = q.level in
    rw (leave_placed x q.guard p 14 0, enter_placed y c.guard p 14 0, leave_placed y c.guard p 14 0) refl

start_fits : (q : ReadyQueue) (c : Called) (at : ℕ) → all_fit 16 14 (start_lines q c at) ≡ true
start_fits q c at =
    let x : Section = section.Ready q.level in
    let y : Section = section.Free c.task in
    let p : ℕ = q.level in
    rw (leave_fits x q.guard p 14 16 14, enter_fits y c.guard p 14 16 14, leave_fits y c.guard p 14 16 14) refl

-- the oldest message as the words of the frame tell it
pub record Tells (o : Entry) (es : List Entry) (left unit place task : ℕ) : Type 0 where
  pub left_is : left ≡ length es
  pub unit_is : unit ≡ 1
  pub place_is : place ≡ o.place
  pub task_is : task ≡ o.task

abbrev pub TellsOf : Entry → List Entry → Words → Type 0
TellsOf o es w = Tells o es w.left w.one w.place w.task

-- the greatest cost of the bodies of the level
abbrev pub most : Dispatcher → ℕ
most d = greatest (map (λ t. body_cost (cost_measure d.app) t.body) (filter (is_of_level d.level) d.app.tasks))

-- how many tasks the level has
abbrev pub tasks_of : Dispatcher → ℕ
tasks_of d = count_by (is_of_level d.level) d.app.tasks

-- there is time for so many tasks of the level, and for the message's own
pub record HasTime (d : Dispatcher) (k done until deadline : ℕ) : Type 0 where
  pub job : 3 * k + (19 + most d) + done ≤ until
  pub section : done + 3 * k + 21 ≤ deadline

module _ {d : Dispatcher} {cells : List ℕ} {queues : Location → List Entry} {vs : Values} {o : Entry} {es : List Entry}
    (oldest : IsOldest d cells queues vs o es) where
  -- where the dispatcher is once it has taken the oldest message off the queue
  abbrev pub chosen : (done until deadline at : ℕ) → List ℕ → Here
  chosen done until deadline at slots =
      record (within d (section.Ready d.level) deadline
      (record { done = done; until = until; at = at; cells = cells; queues = queues }) []
      (start_doing d.app d.level (map (message_at d.app (slice_index cells)) (o ∷ es)) vs)) { slots = slots }

  saves : Saves own (alone d (section.Ready d.level))
  saves = only_mask _ (guard_of d.app (section.Ready d.level)) d.level (inr refl)

  -- its place is the job's own
  mine_queued : 0 < mine (configuration (job d) (chosen 0 0 0 0 [])) o
  mine_queued =
      let x : Section = section.Ready d.level in
      let least = queue_counts queues o x (alone d x) (open_here d x) in
      omega (arith, ap (count o) oldest.queue, count_more o o es, one_itself o)

  module _ {row : ℕ} {t : Task} (is : IsTask d.app d.level d.entry o.task row t) where
    -- it is a place of its task
    less : o.place < t.capacity
    less = let capacity : capacity_of d.app o.task ≡ t.capacity = capacity_is d.app o.task t is.at in
        omega (arith, oldest.placed.1)

    limits : KeepsTaskLimits t
    limits = all_at KeepsTaskLimits d.app.tasks o.task t d.accepted.limits.tasks is.at

    abbrev message : Message
    message = message_at d.app (slice_index cells) o

    abbrev own_task : Chosen d
    own_task =
        record { number = o.task; task = t; row = row; is = is; place = o.place; less = less; args = message.args }

    abbrev spread : Spread
    spread = record { entry = o; behind = o.place * t.args; count = t.args }

    abbrev start_code : ℕ → List Line
    start_code from = start_lines (queue_at d.app d.level) (callee_of d.app o.task row t) from

    -- from the start of the message on, with its arguments in the first slots
    loaded_run : {done until deadline to from : ℕ} {w : Words} {after : List ℕ}
        → 12 + most d + done ≤ until → done + 12 ≤ deadline → from ≡ to → HasCodeAt d.code to (start_code from)
        → AreLoaded d spread cells [] (words w) after 0 t.args → TellsOf o es w
        → S (job d) (chosen done until deadline to after)
    loaded_run {done = done} {until = until} {deadline = deadline} {to = to} {after = after} enough in_time same has
        loaded tells =
        let few : t.args ≤ 4 = limits.args in
        let long : length after ≡ 16 = loaded.long in
        let body_less : body_cost (cost_measure d.app) t.body ≤ most d =
        greatest_has (λ t. body_cost (cost_measure d.app) t.body) (is_of_level d.level) d.app.tasks o.task t is.at
        is.of in
        let first : ℕ = inputs_at d.app o.task in
        let zeroth : first + o.place * t.args ≡ first + o.place * t.args + 0 = omega arith in
        let run : Straight (job d) own (start_code to) (chosen done until deadline to []) (words (words_of after)) =
        start_run own_task es (omega arith)
        oldest
        (record {
          arguments =
              ap (λ a. map (slice_index cells) (range_with_len (first + o.place * a) a))
              (ap (λ o. or_zero (option_map (λ t. t.args) o)) is.at)
              ∙ ap (λ a. map (slice_index cells) (range_with_len a t.args)) zeroth ∙ sym loaded.begins
              ∙ ap (take t.args) (sym (words_are after long))
              ∙ take-append-le t.args (firsts (words_of after)) (drop 4 (words (words_of after))) few;
          one = loaded.late 8 (omega arith) ∙ tells.unit_is;
          place = loaded.late 9 (omega arith) ∙ tells.place_is;
        }) (loaded.late 5 (omega arith) ∙ tells.left_is) in
        let fits = start_fits (queue_at d.app d.level) (callee_of d.app o.task row t) to in
        subst (λ slots. S (job d) (chosen done until deadline to slots)) (words_are after long)
        (run.runs
        (record { time = (omega arith, (omega arith, (omega arith, tt))); saves = saves; long = refl; fit = fits })
        (subst (HasCodeAt d.code to) (start_placed (queue_at d.app d.level) (callee_of d.app o.task row t) to)
        (subst (λ a. HasCodeAt d.code to (start_code a)) same has)))

    -- the code of the task of the message, after the test
    task_run : {done until deadline at from : ℕ} {w : Words}
        → 19 + most d + done ≤ until → done + 21 ≤ deadline → from ≡ at + (2 + t.args)
        → HasCodeAt d.code at (plain (instr.Set 7 t.args) ∷ plain (instr.Calc op.Mul 7 9 7)
        ∷ (argument_lines (slice_index (layout d.app).inputs o.task) t.args ++ start_code from))
        → TellsOf o es w → S (job d) (chosen done until deadline at (words w))
    task_run {done = done} {until = until} {deadline = deadline} {at = at} {from = from} {w = w} enough in_time from_is
        has tells =
        let few : t.args ≤ 4 = limits.args in
        let software : is_software t ≡ true = and_left (is_software t) (t.priority == d.level) is.of in
        let below : o.place < 16 = omega (arith, less, limits.most_capacity) in
        let own_lines : List Line = plain (instr.Set 7 t.args) ∷ plain (instr.Calc op.Mul 7 9 7) ∷ [] in
        let run : Straight (job d) own own_lines (chosen done until deadline at []) (words w) =
        sets (calculates (o.place * t.args)
        (ap (λ k. operate op.Mul k t.args) tells.place_is ∙ times o.place t.args below few)
        (ends
        (all_load d spread (start_code from) t.args 0
        (record {
          few = few;
          homes = λ j small. input_is_home d.app o.task t is.at software o.place j less small;
          long = oldest.represented.long;
          own = mine_queued;
          all = omega arith;
          free = λ k small. only_mask (λ e. e ≢ k) (guard_of d.app (section.Ready d.level)) d.level (omega arith);
          slots = omega arith;
          behind = refl;
          time = (omega arith, (omega arith, (omega arith, tt)));
        })
        (subst (λ lines. HasCodeAt d.code (suc (suc at)) (lines ++ start_code from))
        (lines_by_layout d.app o.task is.at software (λ count cell. argument_lines cell count) (λ a b. refl) t.args
        refl) has.1.1)
        (λ later to after done_is to_is behind loaded.
        loaded_run (omega arith) (omega arith) (omega arith) behind
        loaded tells)))) in
        run.runs
        (record { time = (omega arith, (omega arith, (omega arith, tt))); saves = saves; long = refl; fit = refl })
        (has.0, (has.1.0, tt))

  -- whether the message is of a task
  tested : {n next done until deadline at : ℕ} {w : Words} (b : Bool) → (o.task == n) ≡ b
      → done + 3 ≤ until → done + 3 ≤ deadline
      → HasCodeAt d.code at (plain (instr.Set 7 n) ∷ plain (instr.Calc op.Eq 7 10 7) ∷ plain (instr.JumpZ 7 next) ∷ [])
      → TellsOf o es w
      → S (job d) (chosen (steps_and 3 done) until deadline (if b then steps_and 3 at else next)
      (words (record w { other = number_of b })))
      → S (job d) (chosen done until deadline at (words w))
  tested {n = n} {next = next} {done = done} {until = until} {deadline = deadline} {at = at} {w = w} b test enough
      in_time has tells on =
      let lines : List Line =
      plain (instr.Set 7 n) ∷ plain (instr.Calc op.Eq 7 10 7) ∷ plain (instr.JumpZ 7 next) ∷ [] in
      let run : Straight (job d) own lines (chosen done until deadline at []) (words w) =
      sets (calculates (number_of b) (ap (λ k. number_of (k == n)) tells.task_is ∙ ap number_of test) (jumped b on)) in
      run.runs
      (record { time = (omega arith, (omega arith, (omega arith, tt))); saves = saves; long = refl; fit = refl }) has
    where
      jumped : (b : Bool) → S (job d) (chosen (steps_and 3 done) until deadline
          (if b then steps_and 3 at else next) (words (record w { other = number_of b })))
          → Straight (job d) own (plain (instr.JumpZ 7 next) ∷ [])
          (chosen (suc (suc done)) until deadline (suc (suc at)) []) (words (record w { other = number_of b }))
      jumped true on = stays (omega arith) (ends on)
      jumped false on = jumps_off refl on

  -- the lines for so many tasks of the level, among which the message's is
  pub record Runs (at n k : ℕ) (lines : List Line) : Type 0 where
    pub runs : {done until deadline : ℕ} {w : Words} → n ≤ o.task → HasTime d k done until deadline
        → HasCodeAt d.code at lines → TellsOf o es w → S (job d) (chosen done until deadline at (words w))

  its_task : (t : Task) × (slice_get d.app.tasks o.task ≡ Some t) × (is_of_level d.level t ≡ true)
  its_task = the_task (is_of_level d.level) d.app o.task oldest.placed.0

  -- of a task of another level it is not
  not_other : {n : ℕ} (t : Task) → slice_get d.app.tasks n ≡ Some t → is_of_level d.level t ≡ false → n ≢ o.task
  not_other t here other same =
      let e : t ≡ its_task.0 = same_Some t its_task.0 (sym here ∙ ap (slice_get d.app.tasks) same ∙ its_task.1) in
      cc (e, its_task.2, other)

  -- where it is of a task after another one, that one is not the last of the level
  leads_behind : {n : ℕ} (first behind : ℕ) → n ≤ o.task → n ≢ o.task
      → next_for (exit_of d.app d.level first) n behind ≡ behind
  leads_behind {n = n} first behind before differs =
      let exit : Exit = exit_of d.app d.level first in
      let last = last_past d.level d.app.tasks o.task its_task.1 its_task.2 in
      let less : n < exit.last = omega (arith, before, differs, last) in
      let other : (n == exit.last) ≡ false = grind (arith, nat_tests) in
      ap (λ (b : Bool). if b then exit.address else behind) other

  -- where the code of the tasks leaves, by where the dispatcher begins
  module _ (first : ℕ) where
    abbrev exit : Exit
    exit = exit_of d.app d.level first

    one_run : (at n row k : ℕ) (t : Task) (more : List Line) → IsTask d.app d.level d.entry n row t
        → Runs (at + (17 + t.args)) (n + 1) k more
        → Runs at n (1 + k) (choice_code d.app d.level exit at n row t ++ more)
    one_run at n row k t more is others =
        record { runs = λ before time has tells. by_test (o.task == n) refl before time has tells }
      where
        by_test : {done until deadline : ℕ} {w : Words} (b : Bool) → (o.task == n) ≡ b → n ≤ o.task
            → HasTime d (1 + k) done until deadline
            → HasCodeAt d.code at (choice_code d.app d.level exit at n row t ++ more) → TellsOf o es w
            → S (job d) (chosen done until deadline at (words w))
        by_test true e before time (set, (equal, (jump, behind))) tells =
            let same : n ≡ o.task = sym (eqb-true o.task n e) in
            let lines : ℕ → List Line = λ k.
            plain (instr.Set 7 t.args) ∷ plain (instr.Calc op.Mul 7 9 7)
            ∷ (argument_lines (slice_index (layout d.app).inputs k) t.args
            ++ start_lines (queue_at d.app d.level) (callee_of d.app k row t) (at + (5 + t.args))) in
            tested true e (omega (arith, time.job)) (omega (arith, time.section)) (set, (equal, (jump, tt))) tells
            (task_run (subst (λ n. IsTask d.app d.level d.entry n row t) same is) (omega (arith, time.job))
            (omega (arith, time.section)) (omega arith)
            (subst (λ k. HasCodeAt d.code (steps_and 3 at) (lines k)) same
            (code_front d.code (steps_and 3 at) (lines n) more behind)) tells)
        by_test {done = done} {until = until} {deadline = deadline} {w = w} false e before time has tells =
            let differs : n ≢ o.task = grind (arith, nat_tests) in
            let to : ℕ = at + (17 + t.args) in
            let long = choice_long (queue_at d.app d.level) (callee_of d.app n row t) (next_for exit n to) at in
            tested false e (omega (arith, time.job)) (omega (arith, time.section))
            (has.0, (has.1.0, (has.1.1.0, tt))) tells
            (subst (λ to. S (job d) (chosen (steps_and 3 done) until deadline to (words (record w { other = 0 }))))
            (sym (leads_behind first to before differs))
            (others.runs (omega (arith, before, differs))
            (record { job = omega (arith, time.job); section = omega (arith, time.section) })
            (code_behind d.code at to (choice_code d.app d.level exit at n row t) more (omega (arith, long)) has)
            tells))

    -- and so the code of all tasks of the level runs it
    pub choices_run : (at : ℕ) → Runs at 0 (tasks_of d) (choices_code d.app d.level exit at 0 0 d.app.tasks)
    choices_run at =
        choices_grow {exit = exit} {P = Runs}
        (record {
          none = λ at n from. record { runs = λ before time has tells. absurd (none_left before (from _)) };
          other = λ at n k t lines here other rest. record {
            runs = λ before time has tells.
                let differs = not_other t here other in rest.runs (omega (arith, before, differs)) time has tells;
          };
          next = one_run;
        }) d.app.tasks at 0 0 (all_from d.app.tasks) (all_from (rows d))
      where
        none_left : {n : ℕ} → n ≤ o.task → slice_get d.app.tasks (n + (o.task - n)) ≡ None → ⊥
        none_left {n = n} before none =
            let here : n + (o.task - n) ≡ o.task = omega arith in
            cc (ap (slice_get d.app.tasks) here, none, its_task.1)
