-- The layout that the code makes is the one that is defined, and the numbers of its cells are small.
use Rattle.std.proofs.Common.{◌≡◌, ℕ, zero, suc, ◌+◌, ◌-◌, ◌<◌, ◌≤◌, Bool, true, false, List, [], ◌∷◌, ◌++◌, length}
use Rattle.std.proofs.Common.{map, flat_map, filter, Option, Some, None, refl, sym, ap, subst, ◌∙◌, append_assoc}
use Rattle.std.proofs.Common.{if◌then◌else◌, arith, add-one}
use Rattle.std.specs.Prelude.{nat_lt, slice_index, ◌||◌, sum_by}
use Rattle.std.specs.List.{AllByRecursion, fold, list_any}
use Rattle.std.proofs.lemmas.Bool.{lt-ltb, le-ltb}
use Rattle.std.proofs.lemmas.List.{length-append, length-map}
use Rattle.std.proofs.lemmas.List.Concat.{flat_map-append}
use Rattle.std.proofs.lemmas.List.Sums.{sum_by-cons, fold-append}
use Rattle.rt_lemmas.proofs.Membership.{all_weaker}
use Rattle.rt_ids.specs.Lists.{those_below}
use Rattle.rt_ids.specs.declared.cell.CellRow.{CellRow}
use Rattle.rt_ids.proofs.Lists.{those_next}
use Rattle.rt_app.specs.declared.app.App as code
use Rattle.rt_app.specs.declared.app.Task as code_task
use Rattle.rt_app.specs.declared.app.Mono.{Mono}
use Rattle.rt_app.specs.Tree.{Task, App}
use Rattle.rt_app.specs.View.{task_of, app_of}
use Rattle.rt_app.specs.Level.{is_of_level, levels, armed_messages}
use Rattle.rt_app.specs.Limits.{KeepsTaskLimits, KeepsLimits}
use Rattle.rt_app.specs.Layout.{Layout, layout, memory, row_of, ready_room, timer_queue_at}
use Rattle.rt_layout.specs.Inside.Rows.{resource_row, local_row, task_rows, ready_rows, timed_rows}
use Rattle.rt_layout.specs.Inside.Rooms.{room_of, HasRooms}
use Rattle.rt_layout.specs.Inside.Growing.{none, with_resources, with_task, with_level, with_levels, roomy, with_mono}
use Rattle.rt_layout.proofs.Growing.{free_from, inputs_from, rows_of_levels, ready_from, tasks_cells, tasks_free}
use Rattle.rt_frames.proofs.Below.{below_none}
use Rattle.rt_layout.proofs.Growing.{tasks_inputs, tasks_ready, tasks_timer, levels_cells, levels_ready}
use Rattle.rt_layout.proofs.Growing.{levels_inputs, levels_free, levels_timer, mono_cells, mono_inputs, mono_free}
use Rattle.rt_layout.proofs.Growing.{mono_ready}
use Rattle.rt_layout.proofs.Laying.{rows_are, free_are, inputs_are, ready_are, length-task_cells, length-ready}
use Rattle.rt_layout.proofs.Laying.{those_less}
use Rattle.rt_layout.proofs.Few.{few_cells}

those_alike : (a b : ℕ → Bool) (n : ℕ) → ((p : ℕ) → p < n → a p ≡ b p) → those_below a n ≡ those_below b n
those_alike a b zero same = below_none a ∙ sym (below_none b)
those_alike a b (suc n) same =
    those_next a n
    ∙ (ap (λ x. those_below a n ++ (if x then n ∷ [] else [])) (same n (omega arith))
    ∙ (ap (λ ps. ps ++ (if b n then n ∷ [] else [])) (those_alike a b n (λ p less. same p (omega arith)))
    ∙ sym (those_next b n)))

-- a level has room where it has a task
has_room : (ts : List Task) (p : ℕ) → AllByRecursion KeepsTaskLimits ts → nat_lt 0 (room_of ts p)
    ≡ list_any (is_of_level p) ts
has_room [] p limits = refl
has_room (t ∷ ts) p limits = go (is_of_level p t) (has_room ts p limits.1)
  where
    go : (b : Bool) → nat_lt 0 (room_of ts p) ≡ list_any (is_of_level p) ts
        → nat_lt 0 (sum_by (λ t. t.capacity) (if b then t ∷ filter (is_of_level p) ts else filter (is_of_level p) ts))
        ≡ (b || list_any (is_of_level p) ts)
    go true rest = let least = limits.0.least_capacity in lt-ltb 0 _
        (omega (arith, sum_by-cons (λ t. t.capacity) t (filter (is_of_level p) ts)))
    go false rest = rest

rows_alike : (f g : ℕ → ℕ) (ps : List ℕ) → AllByRecursion (λ p. f p ≡ g p) ps → rows_of_levels f ps
    ≡ rows_of_levels g ps
rows_alike f g [] same = refl
rows_alike f g (p ∷ ps) same = ap (λ n. ready_rows p n ++ rows_of_levels f ps) same.0
    ∙ ap (λ rows. ready_rows p (g p) ++ rows) (rows_alike f g ps same.1)

ready_alike : (f g : ℕ → ℕ) (at : ℕ) (ps : List ℕ) → AllByRecursion (λ p. f p ≡ g p) ps → ready_from f at ps
    ≡ ready_from g at ps
ready_alike f g at [] same = refl
ready_alike f g at (p ∷ ps) same =
    ap (λ n. at ∷ ready_from f (at + length (ready_rows p n)) ps) same.0
    ∙ ap (λ rest. at ∷ rest) (ready_alike f g (at + length (ready_rows p (g p))) ps same.1)

regrouped : (a b c d e : List CellRow) → (((a ++ b) ++ c) ++ d) ++ e ≡ a ++ (b ++ (c ++ (d ++ e)))
regrouped a b c d e = simp append_assoc

module _ (app : App) where
  abbrev resources : List CellRow
  resources = map resource_row app.shared ++ map local_row app.locals

  abbrev queues : List CellRow
  queues = flat_map task_rows app.tasks

  length-resources : length resources ≡ length app.shared + length app.locals
  length-resources =
      omega (
        arith,
        length-append (map resource_row app.shared) (map local_row app.locals),
        length-map app.shared resource_row,
        length-map app.locals local_row,
      )

  -- the rows of the timer queue
  abbrev on_timer : List CellRow
  on_timer = timed_rows (armed_messages app) app.mono

  pub few_rows : KeepsLimits app → length resources + length queues + length
      (rows_of_levels (ready_room app) (levels app)) < 16384
  few_rows limits =
      let on_levels = rows_of_levels (ready_room app) (levels app) in
      omega (
        arith,
        few_cells app limits,
        length-map (memory app) row_of,
        ap length (rows_are app),
        length-append (map resource_row app.shared) (map local_row app.locals ++ (queues ++ (on_levels ++ on_timer))),
        length-append (map local_row app.locals) (queues ++ (on_levels ++ on_timer)),
        length-append queues (on_levels ++ on_timer),
        length-append on_levels on_timer,
        length-append (map resource_row app.shared) (map local_row app.locals),
      )

  abbrev on_tasks : Layout
  on_tasks = fold with_task (with_resources none app) app.tasks

  module _ (limits : KeepsLimits app) (rooms : List ℕ) (has : HasRooms app.tasks rooms) where
    abbrev room : ℕ → ℕ
    room p = slice_index rooms p

    roomy_are : roomy rooms 256 ≡ levels app
    roomy_are = those_alike _ _ 256 (λ p less. ap (nat_lt 0) (has.at p less) ∙ has_room app.tasks p limits.tasks)

    rooms_are : AllByRecursion (λ p. room p ≡ ready_room app p) (levels app)
    rooms_are = all_weaker (λ p. p < 256) (λ p. room p ≡ ready_room app p) has.at (levels app)
        (those_less (λ p. list_any (is_of_level p) app.tasks) 256)

    pub on_levels_are : rows_of_levels room (roomy rooms 256) ≡ rows_of_levels (ready_room app) (levels app)
    on_levels_are = ap (rows_of_levels room) roomy_are ∙ rows_alike room (ready_room app) (levels app) rooms_are

    abbrev on_all_levels : Layout
    on_all_levels = with_levels rooms on_tasks 256

    abbrev whole : Layout
    whole = with_mono (armed_messages app) app.mono on_all_levels

    levels_are : on_all_levels.cells ≡ (resources ++ queues) ++ rows_of_levels room (roomy rooms 256)
    levels_are =
        levels_cells room on_tasks (roomy rooms 256)
        ∙ ap (λ cells. cells ++ rows_of_levels room (roomy rooms 256)) (tasks_cells (with_resources none app) app.tasks)

    cells_are : whole.cells ≡ map row_of (memory app)
    cells_are =
        let on_levels = rows_of_levels room (roomy rooms 256) in
        mono_cells (armed_messages app) on_all_levels app.mono
        ∙ (ap (λ cells. cells ++ on_timer) levels_are
        ∙ (regrouped (map resource_row app.shared) (map local_row app.locals) queues on_levels on_timer
        ∙ (ap (λ rows. map resource_row app.shared ++ (map local_row app.locals ++ (queues ++ (rows ++ on_timer))))
        on_levels_are ∙ sym (rows_are app))))

    inputs_numbers : whole.inputs ≡ (layout app).inputs
    inputs_numbers =
        mono_inputs (armed_messages app) on_all_levels app.mono
        ∙ (levels_inputs room on_tasks (roomy rooms 256)
        ∙ (tasks_inputs (with_resources none app) app.tasks
        ∙ (ap (λ k. inputs_from k app.tasks) length-resources ∙ sym (inputs_are app))))

    free_numbers : whole.free ≡ (layout app).free
    free_numbers =
        mono_free (armed_messages app) on_all_levels app.mono
        ∙ (levels_free room on_tasks (roomy rooms 256)
        ∙ (tasks_free (with_resources none app) app.tasks
        ∙ (ap (λ k. free_from k app.tasks) length-resources ∙ sym (free_are app))))

    length-on_tasks : length on_tasks.cells ≡ length app.shared + length app.locals + length queues
    length-on_tasks = omega (
      arith,
      ap length (tasks_cells (with_resources none app) app.tasks),
      length-append resources queues,
      length-resources,
    )

    ready_numbers : whole.ready ≡ (layout app).ready
    ready_numbers =
        mono_ready (armed_messages app) on_all_levels app.mono
        ∙ (levels_ready room on_tasks (roomy rooms 256)
        ∙ (ap (λ before. before ++ ready_from room (length on_tasks.cells) (roomy rooms 256))
        (tasks_ready (with_resources none app) app.tasks)
        ∙ (ap (λ k. ready_from room k (roomy rooms 256)) length-on_tasks
        ∙ (ap (ready_from room (length app.shared + length app.locals + length queues)) roomy_are
        ∙ (ready_alike room (ready_room app) _ (levels app) rooms_are ∙ sym (ready_are app))))))

    length-levels : length on_all_levels.cells
        ≡ length resources + length queues + length (rows_of_levels (ready_room app) (levels app))
    length-levels = omega (
      arith,
      ap length levels_are,
      length-append (resources ++ queues) (rows_of_levels room (roomy rooms 256)),
      length-append resources queues,
      ap length on_levels_are,
    )

    timer_number : whole.timer ≡ timer_queue_at app app.mono
    timer_number = go app.mono
      where
        go : (o : Option Mono) → (with_mono (armed_messages app) o on_all_levels).timer ≡ timer_queue_at app o
        go None = levels_timer room on_tasks (roomy rooms 256) ∙ tasks_timer (with_resources none app) app.tasks
        go (Some mono) = omega (
          arith,
          length-levels,
          length-resources,
          length-task_cells app app.tasks,
          length-ready app (levels app),
        )

    pub laid : whole ≡ layout app
    laid = λ i. record {
      cells = cells_are i;
      inputs = inputs_numbers i;
      free = free_numbers i;
      ready = ready_numbers i;
      timer = timer_number i;
    }

    pub few_after_levels : length on_all_levels.cells < 65536
    few_after_levels = omega (arith, few_rows limits, length-levels)

    pub few_after_tasks : length on_tasks.cells + length (rows_of_levels room (roomy rooms 256)) < 65536
    few_after_tasks = omega (arith, few_rows limits, length-on_tasks, length-resources, ap length on_levels_are)

  pub few_before_tasks : KeepsLimits app → length (with_resources none app).cells + length queues < 65536
  few_before_tasks limits = omega (arith, few_rows limits)

-- one level more
module _ (rooms : List ℕ) where
  abbrev has : ℕ → Bool
  has p = nat_lt 0 (slice_index rooms p)

  abbrev next : Layout → ℕ → Layout
  next l p = with_level l p (slice_index rooms p)

  pub no_levels : (l : Layout) → l ≡ with_levels rooms l 0
  no_levels l = ap (fold next l) (sym (below_none has))

  with_next : (old : Layout) (n : ℕ) (b : Bool) → has n ≡ b → with_levels rooms old (n + 1)
      ≡ fold next (with_levels rooms old n) (if b then n ∷ [] else [])
  with_next old n b is =
      ap (with_levels rooms old) (add-one n)
      ∙ (ap (fold next old) (those_next has n)
      ∙ (fold-append next old (roomy rooms n) (if has n then n ∷ [] else [])
      ∙ ap (λ b. fold next (with_levels rooms old n) (if b then n ∷ [] else [])) is))

  pub level_with_room : (old l new : Layout) (n i : ℕ) → i ≡ n → 0 < slice_index rooms i → l ≡ with_levels rooms old n
      → new ≡ with_level l n (slice_index rooms i) → new ≡ with_levels rooms old (n + 1)
  level_with_room old l new n i at some before is =
      is ∙ (ap (λ i. with_level l n (slice_index rooms i)) at
      ∙ (ap (λ l. with_level l n (slice_index rooms n)) before
      ∙ sym (with_next old n true (ap (λ i. nat_lt 0 (slice_index rooms i)) (sym at)
      ∙ lt-ltb 0 (slice_index rooms i) some))))

  pub level_without : (old l : Layout) (n i : ℕ) → i ≡ n → slice_index rooms i ≤ 0 → l ≡ with_levels rooms old n → l
      ≡ with_levels rooms old (n + 1)
  level_without old l n i at none before = before
      ∙ sym (with_next old n false (ap (λ i. nat_lt 0 (slice_index rooms i)) (sym at)
      ∙ le-ltb 0 (slice_index rooms i) none))

  rows_grow : (n k : ℕ) → length (rows_of_levels (slice_index rooms) (roomy rooms n)) ≤ length
      (rows_of_levels (slice_index rooms) (roomy rooms (n + k)))
  rows_grow n zero = let e : n + 0 ≡ n = omega arith in
      omega (arith, ap (λ m. length (rows_of_levels (slice_index rooms) (roomy rooms m))) e)
  rows_grow n (suc k) =
      let e : n + suc k ≡ suc (n + k) = omega arith in
      let more = if has (n + k) then (n + k) ∷ [] else [] in
      omega (
        arith,
        rows_grow n k,
        ap (λ m. length (rows_of_levels (slice_index rooms) (roomy rooms m))) e,
        ap (λ ps. length (rows_of_levels (slice_index rooms) ps)) (those_next has (n + k)),
        ap length (flat_map-append (λ p. ready_rows p (slice_index rooms p)) (roomy rooms (n + k)) more),
        length-append (rows_of_levels (slice_index rooms) (roomy rooms (n + k)))
            (rows_of_levels (slice_index rooms) more),
      )

  pub few_so_far : (old l : Layout) (n : ℕ) → n ≤ 256 → l ≡ with_levels rooms old n → length old.cells
      + length (rows_of_levels (slice_index rooms) (roomy rooms 256)) < 65536
      → length l.cells < 65536
  few_so_far old l n less is few =
      let e : n + (256 - n) ≡ 256 = omega arith in
      omega (
        arith,
        ap (λ l. length l.cells) is,
        ap length (levels_cells (slice_index rooms) old (roomy rooms n)),
        length-append old.cells (rows_of_levels (slice_index rooms) (roomy rooms n)),
        rows_grow n (256 - n),
        ap (λ m. length (rows_of_levels (slice_index rooms) (roomy rooms m))) e,
      )

-- the code's application, as it is read in parts
module _ (app : code.App) (start first : Layout) (tasks : List code_task.Task) (starts : start ≡ none)
    (grows : first ≡ with_resources start (app_of app)) (same : tasks ≡ app.tasks.items)
    (limits : KeepsLimits (app_of app)) where
  first_is : first ≡ with_resources none (app_of app)
  first_is = grows ∙ ap (λ l. with_resources l (app_of app)) starts

  pub tasks_fit : length first.cells + length (flat_map task_rows (map task_of tasks)) < 65536
  tasks_fit = omega (
    arith,
    ap (λ l. length l.cells) first_is,
    ap (λ ts. length (flat_map task_rows (map task_of ts))) same,
    few_before_tasks (app_of app) limits,
  )

  module _ (second : Layout) (again : List code_task.Task) (rooms : List ℕ)
      (grows_more : second ≡ fold with_task first (map task_of tasks)) (same_too : again ≡ app.tasks.items)
      (has : HasRooms (map task_of again) rooms) where
    second_is : second ≡ on_tasks (app_of app)
    second_is = grows_more ∙ (ap (λ l. fold with_task l (map task_of tasks)) first_is
        ∙ ap (λ ts. fold with_task (with_resources none (app_of app)) (map task_of ts)) same)

    has_rooms : HasRooms (app_of app).tasks rooms
    has_rooms = subst (λ ts. HasRooms (map task_of ts) rooms) same_too has

    pub levels_fit : length second.cells + length (rows_of_levels (slice_index rooms) (roomy rooms 256)) < 65536
    levels_fit = omega (arith, ap (λ l. length l.cells) second_is, few_after_tasks (app_of app) limits rooms has_rooms)

    module _ (third : Layout) (grows_again : third ≡ with_levels rooms second 256) where
      third_is : third ≡ with_levels rooms (on_tasks (app_of app)) 256
      third_is = grows_again ∙ ap (λ l. with_levels rooms l 256) second_is

      pub timer_fits : length third.cells < 65536
      timer_fits =
          omega (arith, ap (λ l. length l.cells) third_is, few_after_levels (app_of app) limits rooms has_rooms)

      pub all_laid : (last : Layout) → last ≡ with_mono (armed_messages (app_of app)) app.mono third
          → last ≡ layout (app_of app)
      all_laid last is =
          is ∙ (ap (with_mono (armed_messages (app_of app)) app.mono) third_is
          ∙ laid (app_of app) limits rooms has_rooms)
