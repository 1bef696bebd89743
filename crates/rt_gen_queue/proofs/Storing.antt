-- The code by which a spawn stores the arguments in the cells of its place, and makes the word of its message.
use Rattle.rt_gen_queue.proofs.Vocabulary.{Entry, Guarded, HasCodeAt, Location, Home, In, LeavesMine, Line, List}
use Rattle.rt_gen_queue.proofs.Vocabulary.{MayLoad}
use Rattle.rt_gen_queue.proofs.Vocabulary.{Task, [], ap, arguments_of, arith, capacity_of, cases_lt, count, count_more}
use Rattle.rt_gen_queue.proofs.Vocabulary.{drop, fill_code, get_or-take, get_or_append_left, home_of, inl}
use Rattle.rt_gen_queue.proofs.Vocabulary.{input_is_home, inputs_at, inr, length, length-append}
use Rattle.rt_gen_queue.proofs.Vocabulary.{length-map-range_with_len, length-take-le, lt-ltb, map, map-append, may_load}
use Rattle.rt_gen_queue.proofs.Vocabulary.{memory, message_at, message_word, mine, owns_open, plain, queued}
use Rattle.rt_gen_queue.proofs.Vocabulary.{queues_same, range_with_len, refl, slice_index, storage, store_code, subst}
use Rattle.rt_gen_queue.proofs.Vocabulary.{suc, sym, take, true, zero, ℕ, ◌*◌, ◌++◌, ◌+◌, ◌<◌, ◌∙◌, ◌∷◌, ◌≡◌, ◌≢◌, ◌≤◌}
use Rattle.std.proofs.lemmas.Nat.{mul-le}
use Rattle.rt_ids.specs.declared.op.Op.TheVariants as op
use Rattle.rt_code.specs.declared.instr.Instr.TheVariants as instr
use Rattle.rt_gen_queue.proofs.{Numbers.added, Numbers.multiplied, Numbers.steps_and, Numbers.steps_are, Owning.home_as}
use Rattle.rt_gen_queue.proofs.{Owning.place_in_memory, Owning.stores_place, Planned.lines_by_layout, Queues.range_is}
use Rattle.rt_gen_queue.proofs.{Words.Arguments, Words.Scratch, Words.listed, Words.words}
use Rattle.rt_gen_queue.proofs.Facts.{Spawned, arguments, capacity, few_arguments, few_free, small}
use Rattle.rt_gen_queue.proofs.Layer.{Frame, Here, InTime, Now, S, Saves, Setting, Straight, ahead, all_fit, calculates}
use Rattle.rt_gen_queue.proofs.Layer.{ends, moved, placed, sets, configuration, stores_at}

-- the cell of an argument of a place
abbrev pub argument_at : Setting → ℕ → Entry → ℕ → ℕ
argument_at z task e k = inputs_at z.app task + e.place * arguments_of z.app task + k

-- from one on the arguments are these, and nothing else has changed but cells of the place
pub record Filled (z : Setting) (task : ℕ) (e : Entry) (values : List ℕ) (from : ℕ) (before after : List ℕ)
    : Type 0 where
  pub long : length after ≡ length before
  pub there : (k : ℕ) → from ≤ k → k < arguments_of z.app task
      → slice_index after (argument_at z task e k) ≡ slice_index values k
  pub lower : (k : ℕ) → k < from
      → slice_index after (argument_at z task e k) ≡ slice_index before (argument_at z task e k)
  pub others : (c : ℕ) → ¬ (home_of z.app c ≡ In e) → slice_index after c ≡ slice_index before c

-- a place of the task in the hands
pub record HasPlace (z : Setting) (h : Here) (task : ℕ) (e : Entry) : Type 0 where
  pub of_task : e.task ≡ task
  pub place : e.place < capacity_of z.app task
  pub some : 0 < count e h.places
  pub long : length h.cells ≡ length (memory z.app)

pub record MayFill (z : Setting) (f : Frame 9 8) (h : Here) (task : ℕ) (t : Task) (e : Entry) : Type 0 where
  pub facts : Spawned z.app task t
  pub code : HasCodeAt z.code h.at (fill_code z.app task f.slot)
  pub time : InTime (h.done + (4 + arguments_of z.app task)) h
  pub saves : Saves f h.held
  pub hands : HasPlace z h task e

-- the lines that store, by the window, and that they fit
stores_placed : (count cell slot from : ℕ)
    → store_code count cell slot from ≡ map (placed slot) (store_code count cell 0 from)
stores_placed zero cell slot from = refl
stores_placed (suc count) cell slot from =
    let e : slot + (0 + from) ≡ slot + from = omega arith in
    rw (e, stores_placed count cell slot (from + 1)) refl

stores_fit : (count cell from : ℕ) (lines : List Line) → from + count ≤ 4 → all_fit 9 8 lines ≡ true
    → all_fit 9 8 (store_code count cell 0 from ++ lines) ≡ true
stores_fit zero cell from lines few fit = fit
stores_fit (suc count) cell from lines few fit =
    rw (lt-ltb (0 + from) 9 (omega arith)) (stores_fit count cell (from + 1) lines (omega arith) fit)

module _ {z : Setting} {f : Frame 9 8} {h : Here} {task : ℕ} {t : Task} {e : Entry} (may : MayFill z f h task t e)
    (a : Arguments) (s : Scratch) where
  abbrev args_of : ℕ
  args_of = arguments_of z.app task

  few_args : args_of ≤ 4
  few_args = omega (arith, arguments z.app task t may.facts, few_arguments z.app task t may.facts)

  cell_home : (k : ℕ) → k < args_of → home_of z.app (argument_at z task e k) ≡ In e
  cell_home k within =
      let args : args_of ≡ t.args = arguments z.app task t may.facts in
      ap (λ n. home_of z.app (inputs_at z.app task + e.place * n + k)) args
      ∙ input_is_home z.app task t may.facts.at may.facts.software e.place k
      (omega (arith, may.hands.place, capacity z.app task t may.facts)) (omega (arith, within, args))
      ∙ ap (λ n. In (record { task = n; place = e.place })) (sym may.hands.of_task)

  -- with the first cell of the place in a slot
  abbrev base : Scratch
  base = record s { word = e.place; number = e.place * args_of }

  all_stored : {lines : List Line} {g : Here} (more from : ℕ) → from + more ≡ args_of → 0 < count e g.places
      → length g.cells ≡ length (memory z.app)
      → ((done at : ℕ) (left : List ℕ) → done ≡ g.done + more → at ≡ g.at + more
      → Filled z task e (listed a) from g.cells left
      → Straight z f lines (record g { done = done; at = at; cells = left }) (words a base))
      → Straight z f (store_code more (inputs_at z.app task) 0 from ++ lines) g (words a base)
  all_stored {g = g} zero from all some long on =
      on g.done g.at g.cells (omega arith) (omega arith)
      (record { long = refl; there = λ k least less. absurd (omega arith); lower = λ k l. refl; others = λ c o. refl })
  all_stored {g = g} (suc more) from all some long on =
      let c : ℕ = inputs_at z.app task + from + e.place * args_of in
      let c_is : c ≡ argument_at z task e from = omega arith in
      let home : home_of z.app c ≡ In e = ap (home_of z.app) c_is ∙ cell_home from (omega arith) in
      let low : from < 4 = omega (arith, few_args) in
      let zeroth : 0 + from ≡ from = omega arith in
      let shown : slice_index (words a base) (0 + from) ≡ slice_index (listed a) from =
      ap (slice_index (words a base)) zeroth ∙ get_or_append_left (listed a) (drop 4 (words a base)) 0 from low in
      stores_at (e.place * args_of) (slice_index (listed a) from) refl shown
      (record {
        may = stores_place z.app z.who (configuration z (Now f g (words a base))) c e home some;
        there = omega (arith, long, place_in_memory z.app c e home);
      })
      (λ cells wrote.
      all_stored more (from + 1) (omega arith) some (wrote.long ∙ long)
      (λ done at left done_is at_is filled.
      on done at left (omega arith) (omega arith)
      (record {
        long = filled.long ∙ wrote.long;
        there = λ k least less.
            elim (cases_lt from k) [
              | inl above ↦ filled.there k (omega arith) less
              | inr same ↦
                  (let k_is : k ≡ from = omega arith in
                  let at_k : argument_at z task e k ≡ c = omega (arith, k_is) in
                  filled.lower k (omega arith) ∙ ap (slice_index cells) at_k ∙ wrote.here
                  ∙ ap (slice_index (listed a)) (sym k_is))
            ];
        lower = λ k less.
            let differ : argument_at z task e k ≢ c = omega arith in
            filled.lower k (omega arith) ∙ wrote.others (argument_at z task e k) differ;
        others = λ d other.
            filled.others d other ∙ wrote.others d (λ (same : d ≡ c). other (ap (home_of z.app) same ∙ home));
      })))

  -- the lines of all of it, by the window, with where the arguments lie
  abbrev last : ℕ → List Line
  last slot = plain (instr.Set (slot + 7) (16 * task)) ∷ plain (instr.Calc op.Add (slot + 6) (slot + 6) (slot + 7)) ∷ []

  abbrev around : ℕ → List Line → List Line
  around slot lines =
      plain (instr.Set (slot + 7) args_of)
      ∷ plain (instr.Calc op.Mul (slot + 7) (slot + 6) (slot + 7)) ∷ (lines ++ last slot)

  abbrev filling : List Line
  filling = around 0 (store_code args_of (inputs_at z.app task) 0 0)

  code_is : (slot : ℕ) → fill_code z.app task slot ≡ map (placed slot) filling
  code_is slot =
      let all_placed = map-append (placed slot) (store_code args_of (inputs_at z.app task) 0 0) (last 0) in
      rw all_placed (ap (around slot) (lines_by_layout z.app task may.facts.at may.facts.software
      (λ n cell. store_code n cell slot 0) (λ n m. refl) args_of (arguments z.app task t may.facts)
      ∙ stores_placed args_of (inputs_at z.app task) slot 0))

  pub fill_stands : ((r : Scratch) (left : List ℕ) → Filled z task e (listed a) 0 h.cells left
      → S z (Now f (record (ahead (4 + args_of) h) { cells = left }) (words a (record r { word = message_word e }))))
      → S z (Now f h (words a (record s { word = e.place })))
  fill_stands on =
      let places : e.place < 16 = omega (arith, may.hands.place, few_free z.app task t may.facts) in
      let product : e.place * args_of ≤ 16 * 4 = mul-le e.place args_of 16 4 (omega arith) few_args in
      let word : e.place + 16 * task ≡ message_word e = omega (arith, may.hands.of_task) in
      let long : 4 + args_of ≡ length filling = simp (length-append, length-map-range_with_len) (omega arith) in
      let run : Straight z f filling h (words a (record s { word = e.place })) =
      sets
      (calculates (e.place * args_of) (multiplied e.place args_of (e.place * args_of) refl (omega arith))
      (all_stored args_of 0 (omega arith) may.hands.some may.hands.long
      (λ done at left done_is at_is filled.
      sets
      (calculates (message_word e) (added e.place (16 * task) (message_word e) word
      (omega (arith, may.hands.of_task, small z.app task t may.facts)))
      (ends (moved (steps_and (4 + args_of) h.done) (steps_and (4 + args_of) h.at)
      (omega (arith, done_is, steps_are (4 + args_of) h.done)) (omega (arith, at_is, steps_are (4 + args_of) h.at))
      (on (record s { number = 16 * task }) left filled))))))) in
      let fits = stores_fit args_of (inputs_at z.app task) 0 (last 0) (omega (arith, few_args)) refl in
      run.runs
      (record { time = subst (λ n. InTime (h.done + n) h) long may.time; saves = may.saves; long = refl; fit = fits })
      (subst (HasCodeAt z.code h.at) (code_is f.slot) may.code)

-- the message has the arguments
pub message_is : {z : Setting} {task : ℕ} {t : Task} {e : Entry} {values before after : List ℕ}
    → Spawned z.app task t → e.task ≡ task → 4 ≤ length values → Filled z task e values 0 before after
    → message_at z.app (slice_index after) e ≡ record { task = task; args = take t.args values }
message_is {z = z} {task = task} {t = t} {e = e} {values = values} {after = after} facts of_task long filled =
    let count : ℕ = arguments_of z.app task in
    let args : count ≡ t.args = arguments z.app task t facts in
    let few = few_arguments z.app task t facts in
    ap (λ n. record {
      task = n;
      args = map (slice_index after) (range_with_len (inputs_at z.app n + e.place * arguments_of z.app n)
          (arguments_of z.app n));
    }) of_task
    ∙ ap (λ ws. record { task = task; args = ws })
    (range_is (slice_index after) (inputs_at z.app task + e.place * count) count (take count values)
    (length-take-le count values (omega (arith, args, few, long)))
    (λ k less. filled.there k (omega arith) less ∙ sym (get_or-take count values k 0 less))
    ∙ ap (λ n. take n values) args)

-- With a place in its hands that was nobody's, whose cells alone it changes, a job leaves its own as it was.
pub own_filled : {z : Setting} {task : ℕ} {e : Entry} {values mid after last : List ℕ}
    {queues more : Location → List Entry} (h : Here) → mine (configuration z h) e ≡ 0
    → LeavesMine (storage z.app) z.who (configuration z h) mid queues → Filled z task e values 0 mid after
    → LeavesMine (storage z.app) z.who
    (configuration z (record h { places = e ∷ h.places; cells = after; queues = queues })) last more
    → LeavesMine (storage z.app) z.who (configuration z h) last more
own_filled {z = z} {e = e} {mid = mid} {after = after} {queues = queues} h none first filled second = record {
  long = second.long ∙ filled.long ∙ first.long;
  touched = λ c may.
      second.touched c
      (may_load (storage z.app) z.who (configuration z h) (configuration z holding) ((storage z.app).home c)
      (λ location read. read)
      more_mine may)
      ∙ filled.others c (λ is. not_mine (subst (λ (home : Home). MayLoad (storage z.app) z.who (configuration z h) home)
      (home_as z.app c ∙ is) may))
      ∙ first.touched c may;
  queued = λ location own. second.queued location own ∙ first.queued location own;
}
  where
    holding : Here
    holding = record h { places = e ∷ h.places; cells = after; queues = queues }

    not_mine : 0 < mine (configuration z h) e → ⊥
    not_mine some = omega (arith, some, none)

    more_mine : (y : Entry) → 0 < mine (configuration z h) y → 0 < mine (configuration z holding) y
    more_mine y some =
        let same : queued queues y h.held ≡ queued h.queues y h.held =
        queues_same h.queues queues y h.held
        (λ x opens. first.queued (Guarded x) (owns_open (storage z.app) z.who h.held x opens)) in
        omega (arith, some, same, count_more y e h.places)
