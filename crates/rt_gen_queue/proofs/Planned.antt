-- What a spawn is made of, as a plan has it in its tables.
use Rattle.rt_gen_queue.proofs.Vocabulary.{App, Bool, Ceilings, IsAccepted, IsPlan, IsSome, Layout, Line, List, None}
use Rattle.rt_gen_queue.proofs.Vocabulary.{Option, subst}
use Rattle.rt_gen_queue.proofs.Vocabulary.{Plan, Some, Task, [], ap, app_of, arith, ceiling, free_at, guard_of_ceiling}
use Rattle.rt_gen_queue.proofs.Vocabulary.{if◌then◌else◌, inputs_at, is_software, layout, lt-ltb, nat_lt, none-some}
use Rattle.rt_gen_queue.proofs.Vocabulary.{or_zero, queue_at, same_Some, slice_get, slice_index, suc, sym, then_from}
use Rattle.rt_gen_queue.proofs.Vocabulary.{true, zero, ℕ, ◌&&◌, ◌+◌, ◌<◌, ◌^◌, ◌∙◌, ◌∷◌, ◌≡◌, ◌≤◌}
use Rattle.rt_gen_queue.proofs.Vocabulary.{get_or, is_some_and, length, length-map, map, mapped_at, refl, task_of}
use Rattle.rt_gen_queue.proofs.Vocabulary.{slice_get_read, slice_get_within}
use Rattle.rt_app.specs.declared.app.Task as code
use Rattle.rt_ids.{proofs.Hardware.tells_priorities, specs.Priority.hardware}
use Rattle.rt_ids.specs.declared.ids.Section.TheVariants as section
use Rattle.rt_app.specs.{Ceiling.free_ceilings, Layout.has_inputs, Layout.numbers_of}
use Rattle.rt_gen_queue.proofs.Facts.{Spawned, arguments, few_arguments, free_top, priority}
use Rattle.rt_gen_queue.specs.SpawnCode as spec
use Rattle.rt_gen_queue.specs.declared.target.Target.{Target}

-- a software task of a number is there
pub task_within : (items : List code.Task) (n : ℕ) → is_some_and is_software (slice_get (map task_of items) n) ≡ true
    → n < length items
task_within items n software = go (slice_get (map task_of items) n) refl software
  where
    go : (o : Option Task) → slice_get (map task_of items) n ≡ o → is_some_and is_software o ≡ true → n < length items
    go None at is = absurd cc
    go (Some t) at is = omega (arith, slice_get_within (map task_of items) n t at, length-map items task_of)

-- and it is what is read
pub task_read : (items : List code.Task) (i n : ℕ) (d : code.Task) → i ≡ n
    → is_some_and is_software (slice_get (map task_of items) n) ≡ true → d ≡ get_or items i d
    → slice_get (map task_of items) n ≡ Some (task_of d)
task_read items i n d same software is =
    let at = ap (λ (k : ℕ). get_or items k d) same in
    mapped_at task_of items n d (slice_get_read items (length items) n d refl (task_within items n software) (is ∙ at))

-- the number of a task that passes
pub number_at : (test : Task → Bool) (at : ℕ → ℕ) (n : ℕ) (ts : List Task) (i : ℕ) (t : Task)
    → slice_get ts i ≡ Some t → test t ≡ true → slice_index (numbers_of test at n ts) i ≡ at (n + i)
number_at test at n [] i t there passes = absurd (none-some t there)
number_at test at n (u ∷ ts) zero t there passes =
    let e : n ≡ n + 0 = omega arith in
    ap (λ (b : Bool). if b then at n else 0) (ap test (same_Some u t there) ∙ passes) ∙ ap at e
number_at test at n (u ∷ ts) (suc i) t there passes =
    let e : n + 1 + i ≡ n + suc i = omega arith in number_at test at (n + 1) ts i t there passes ∙ ap at e

-- there is a number for each task
numbers_long : (test : Task → Bool) (at : ℕ → ℕ) (n : ℕ) (ts : List Task)
    → length (numbers_of test at n ts) ≡ length ts
numbers_long test at n [] = refl
numbers_long test at n (t ∷ ts) = ap suc (numbers_long test at (n + 1) ts)

-- Where the arguments of a task's places lie, as the layout tells it: a task that takes none has no cell there.
module _ (app : App) (n : ℕ) {t : Task} (there : slice_get app.tasks n ≡ Some t) (software : is_software t ≡ true) where
  input_is : 0 < t.args → slice_index (layout app).inputs n ≡ inputs_at app n
  input_is some =
      let zeroth : 0 + n ≡ n = omega arith in
      let takes : has_inputs t ≡ true =
      ap (λ b. b && nat_lt 0 t.args) software ∙ lt-ltb 0 t.args some in
      number_at has_inputs (inputs_at app) 0 app.tasks n t there takes ∙ ap (inputs_at app) zeroth

  -- so lines of so many arguments are the same by the layout and by where the arguments lie
  pub lines_by_layout : (lines : ℕ → ℕ → List Line) → ((a b : ℕ) → lines 0 a ≡ lines 0 b) → (count : ℕ)
      → count ≡ t.args → lines count (slice_index (layout app).inputs n) ≡ lines count (inputs_at app n)
  lines_by_layout lines none zero is = none (slice_index (layout app).inputs n) (inputs_at app n)
  lines_by_layout lines none (suc count) is = ap (lines (suc count)) (input_is (omega (arith, is)))

-- the ceiling of a task's free places
pub free_top_is : (app : App) (n : ℕ) (ts : List Task) (i : ℕ) (t : Task) → slice_get ts i ≡ Some t
    → is_software t ≡ true
    → then_from (slice_get (free_ceilings app n ts) i) (λ c. c) ≡ Some (ceiling app (section.Free (n + i)))
free_top_is app n [] i t there software = absurd (none-some t there)
free_top_is app n (u ∷ ts) zero t there software =
    let e : n ≡ n + 0 = omega arith in
    ap (λ (b : Bool). if b then Some (ceiling app (section.Free n)) else None)
    (ap is_software (same_Some u t there) ∙ software) ∙ ap (λ k. Some (ceiling app (section.Free k))) e
free_top_is app n (u ∷ ts) (suc i) t there software =
    let e : n + 1 + i ≡ n + suc i = omega arith in
    free_top_is app (n + 1) ts i t there software ∙ ap (λ k. Some (ceiling app (section.Free k))) e

-- the ceiling 0 masks nothing
pub no_guard : (bits top : ℕ) → 3 ≤ bits → bits ≤ 7 → top ≡ 0 → record { ceiling = top; value = 256 }
    ≡ guard_of_ceiling bits top
no_guard bits top few many e =
    ap (λ value. record { ceiling = top; value = value })
    (sym (tells_priorities.none bits few many) ∙ ap (hardware bits) (sym e))

module _ {plan : Plan} (task : ℕ) {t : Task} (accepted : IsAccepted (app_of plan.app.now)) (planned : IsPlan plan)
    (there : slice_get (app_of plan.app.now).tasks task ≡ Some t) (software : is_software t ≡ true) where
  abbrev of_plan : App
  of_plan = app_of plan.app.now

  pub facts : Spawned of_plan task t
  facts = record { accepted = accepted; at = there; software = software }

  abbrev top_read : ℕ
  top_read = or_zero (then_from (slice_get plan.ceil.free task) (λ c. c))

  top_found : then_from (slice_get plan.ceil.free task) (λ c. c) ≡ Some (ceiling of_plan (section.Free task))
  top_found =
      let zeroth : 0 + task ≡ task = omega arith in
      let listed = ap (λ (c : Ceilings). c.free) planned.ceilings in
      ap (λ (os : List (Option ℕ)). then_from (slice_get os task) (λ c. c)) listed
      ∙ free_top_is of_plan 0 of_plan.tasks task t there software
      ∙ ap (λ k. Some (ceiling of_plan (section.Free k))) zeroth

  pub top_there : IsSome (then_from (slice_get plan.ceil.free task) (λ c. c))
  top_there = subst (λ (o : Option ℕ). IsSome o) (sym top_found) refl

  top_at : top_read ≡ ceiling of_plan (section.Free task)
  top_at = ap or_zero top_found

  pub top_small : top_read ≤ 2 ^ plan.app.now.bits
  top_small = omega (arith, top_at, free_top of_plan task t facts)

  pub few_planned : t.args ≤ 4
  few_planned = few_arguments of_plan task t facts

  -- the layout has a row for the task
  task_there : task < length of_plan.tasks
  task_there = slice_get_within of_plan.tasks task t there

  pub free_there : task < length plan.lay.free
  free_there =
      let cells = ap (λ (l : Layout). length l.free) planned.layout in
      omega (arith, cells, numbers_long is_software (free_at of_plan) 0 of_plan.tasks, task_there)

  pub inputs_there : task < length plan.lay.inputs
  inputs_there =
      let starts = ap (λ (l : Layout). length l.inputs) planned.layout in
      omega (arith, starts, numbers_long has_inputs (inputs_at of_plan) 0 of_plan.tasks, task_there)

  -- what is read of the plan's tables
  abbrev pub target_read : Target
  target_read = record {
    task = task;
    args = t.args;
    free = slice_index plan.lay.free task;
    inputs = slice_index plan.lay.inputs task;
    guard = guard_of_ceiling plan.app.now.bits top_read;
    queue = queue_at of_plan t.priority;
  }

  -- is what the spawn is made of
  pub target_made : target_read ≡ spec.target_of of_plan task
  target_made =
      let zeroth : 0 + task ≡ task = omega arith in
      let cells = ap (λ (l : Layout). l.free) planned.layout in
      let starts = ap (λ (l : Layout). l.inputs) planned.layout in
      let free = number_at is_software (free_at of_plan) 0 of_plan.tasks task t there software
      ∙ ap (free_at of_plan) zeroth in
      rw (cells, starts, free, top_at, ← arguments of_plan task t facts, ← priority of_plan task t facts)
