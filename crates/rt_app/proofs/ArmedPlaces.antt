-- The rows of the timer queue's columns: each place of a task that may be armed has a row of its own.
use Rattle.std.proofs.Common.{◌≡◌, ℕ, zero, suc, ◌+◌, ◌*◌, ◌<◌, ◌≤◌, Bool, true, false, List, [], ◌∷◌, length}
use Rattle.std.proofs.Common.{take, Option, Some, None, option_map, slice_get, refl, ap, ◌∙◌, arith}
use Rattle.std.proofs.Common.{if◌then◌else◌}
use Rattle.std.specs.List.{AllByRecursion}
use Rattle.std.proofs.Math.Seq.{take-length}
use Rattle.std.proofs.lemmas.Option.{same_Some, none-some, slice_get_within}
use Rattle.rt_ids.specs.Lists.{or_zero}
use Rattle.rt_actions.specs.Entry.{Entry}
use Rattle.rt_ids.specs.declared.limits.TheConstants.{CAPACITY, TASKS}
use Rattle.rt_app.specs.Tree.{Task, App}
use Rattle.rt_app.specs.Level.{is_armed, armed_capacities, armed_messages, capacities_before}
use Rattle.rt_app.specs.Limits.{KeepsTaskLimits}
use Rattle.rt_app.specs.Accepted.{IsAccepted}
use Rattle.rt_app.specs.Sending.{capacity_of}
use Rattle.rt_app.specs.Holding.{armed_place}
use Rattle.rt_app.proofs.Counting.{parts_alike}

module _ (app : App) where
  -- the rows of a task
  abbrev pub rows : ℕ → Task → ℕ
  rows n t = if is_armed app n then t.capacity else 0

  rows_until : (n : ℕ) (ts : List Task) (k j : ℕ) (t : Task) → slice_get ts k ≡ Some t → k < j
      → armed_capacities app n (take k ts) + rows (n + k) t ≤ armed_capacities app n (take j ts)
  rows_until n [] k j t at less = absurd (none-some t at)
  rows_until n (u ∷ ts) k zero t at less = absurd (omega arith)
  rows_until n (u ∷ ts) zero (suc j) t at less =
      let d : n ≡ n + 0 = omega arith in
      let moved : rows n u ≡ rows (n + 0) t = ap (λ m. rows m u) d ∙ ap (rows (n + 0)) (same_Some u t at) in
      omega arith
  rows_until n (u ∷ ts) (suc k) (suc j) t at less =
      let d : n + 1 + k ≡ n + suc k = omega arith in
      let moved : rows (n + 1 + k) t ≡ rows (n + suc k) t = ap (λ m. rows m t) d in
      omega (arith, rows_until (n + 1) ts k j t at (omega arith))

  -- behind the rows of a task stand those of the tasks behind it
  pub rows_before : (n k : ℕ) (t : Task) → slice_get app.tasks n ≡ Some t → n < k
      → capacities_before app n + rows n t ≤ capacities_before app k
  rows_before n k t at less =
      let d : 0 + n ≡ n = omega arith in
      let moved : rows (0 + n) t ≡ rows n t = ap (λ m. rows m t) d in
      omega (arith, rows_until 0 app.tasks n k t at less)

  pub rows_within : (n : ℕ) (t : Task) → slice_get app.tasks n ≡ Some t
      → capacities_before app n + rows n t ≤ armed_messages app
  rows_within n t at =
      let all : capacities_before app (length app.tasks) ≡ armed_messages app =
      ap (armed_capacities app 0) (take-length app.tasks) in
      omega (arith, rows_before n (length app.tasks) t at (slice_get_within app.tasks n t at))

  -- a place of a task that may be armed
  pub record IsArmedPlace (e : Entry) : Type 0 where
    pub armed : is_armed app e.task ≡ true
    pub within : e.place < capacity_of app e.task

  task_of : (n : ℕ) → 0 < capacity_of app n → (t : Task) × (slice_get app.tasks n ≡ Some t)
  task_of n some = go (slice_get app.tasks n) refl
    where
      go : (o : Option Task) → slice_get app.tasks n ≡ o → (t : Task) × (slice_get app.tasks n ≡ Some t)
      go None is =
          let none : capacity_of app n ≡ 0 = ap (λ o. or_zero (option_map (λ (t : Task). t.capacity) o)) is in
          absurd (omega arith)
      go (Some t) is = (t, is)

  rows_are : (e : Entry) (t : Task) → slice_get app.tasks e.task ≡ Some t → IsArmedPlace e
      → e.place < rows e.task t
  rows_are e t at is =
      let opened : rows e.task t ≡ t.capacity = ap {B = ℕ} (λ b. if b then t.capacity else 0) is.armed in
      let capacity : capacity_of app e.task ≡ t.capacity =
      ap (λ o. or_zero (option_map (λ (t : Task). t.capacity) o)) at in
      let within = is.within in
      omega arith

  pub armed_place_within : (e : Entry) → IsArmedPlace e → armed_place app e < armed_messages app
  armed_place_within e is =
      let within = is.within in
      let task = task_of e.task (omega arith) in
      omega (arith, rows_are e task.0 task.1 is, rows_within e.task task.0 task.1)

  -- two tasks have no row in common
  rows_apart : (e x : Entry) → IsArmedPlace e → IsArmedPlace x → e.task < x.task
      → armed_place app e < armed_place app x
  rows_apart e x is other less =
      let within = is.within in
      let task = task_of e.task (omega arith) in
      omega (arith, rows_are e task.0 task.1 is, rows_before e.task x.task task.0 task.1 less)

  pub armed_place_once : (e x : Entry) → IsArmedPlace e → IsArmedPlace x → armed_place app e ≡ armed_place app x
      → e ≡ x
  armed_place_once e x is other same =
      let not_before : ¬ (e.task < x.task) = λ less. (let apart = rows_apart e x is other less in omega arith) in
      let not_behind : ¬ (x.task < e.task) = λ less. (let apart = rows_apart x e other is less in omega arith) in
      let task : e.task ≡ x.task = omega arith in
      let before : capacities_before app e.task ≡ capacities_before app x.task = ap (capacities_before app) task in
      let place : e.place ≡ x.place = omega arith in
      parts_alike e x task place

  few_rows : (n : ℕ) (ts : List Task) (k : ℕ) → AllByRecursion KeepsTaskLimits ts
      → armed_capacities app n (take k ts) ≤ CAPACITY * k
  few_rows n ts zero all = omega arith
  few_rows n [] (suc k) all = omega arith
  few_rows n (t ∷ ts) (suc k) all =
      let most = all.0.most_capacity in
      omega (arith, no_more (is_armed app n) t.capacity, few_rows (n + 1) ts k all.1)
    where
      no_more : (b : Bool) (c : ℕ) → (if b then c else 0) ≤ c
      no_more true c = omega arith
      no_more false c = omega arith

  module _ (accepted : IsAccepted app) where
    pub few_before : (n : ℕ) → capacities_before app n ≤ CAPACITY * n
    few_before n = few_rows 0 app.tasks n accepted.limits.tasks

    pub few_messages : armed_messages app ≤ CAPACITY * TASKS
    few_messages =
        let tasks = accepted.limits.few_tasks in
        omega (arith, few_before (length app.tasks), ap (armed_capacities app 0) (take-length app.tasks))
