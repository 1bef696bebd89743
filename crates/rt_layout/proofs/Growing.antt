-- What a layout has after the queues of a task, of tasks, of levels, and after the timer queue.
use Rattle.std.proofs.Common.{◌≡◌, ℕ, suc, ◌+◌, ◌<◌, Bool, true, false, List, [], ◌∷◌, ◌++◌, length, map, flat_map}
use Rattle.std.proofs.Common.{take, get_or, Option, Some, None, refl, sym, ap, ◌∙◌, append_assoc, append-nil}
use Rattle.std.proofs.Common.{if◌then◌else◌, arith}
use Rattle.std.specs.Prelude.{nat_lt, ◌&&◌}
use Rattle.std.specs.List.{range_with_len, fold}
use Rattle.std.proofs.lemmas.List.{length-append, length-map}
use Rattle.std.proofs.lemmas.List.FromFn.{length-range_with_len}
use Rattle.std.proofs.lemmas.List.Folds.{length-flat_map-take}
use Rattle.rt_lemmas.proofs.Lists.{fold_leaves, flat_map-map}
use Rattle.rt_ids.specs.declared.cell.CellRow.{CellRow}
use Rattle.rt_app.specs.declared.app.Task as declared
use Rattle.rt_app.specs.declared.app.Mono.{Mono}
use Rattle.rt_app.specs.Tree.{Task}
use Rattle.rt_app.specs.View.{task_of}
use Rattle.rt_app.specs.Level.{is_software}
use Rattle.rt_app.specs.Layout.{Layout, has_inputs}
use Rattle.rt_layout.specs.Inside.Rows.{free_rows, input_rows, queue_rows, task_rows, ready_rows, timed_rows}
use Rattle.rt_layout.specs.Inside.Growing.{with_queues, without_queues, with_task, with_level, with_mono}
use Rattle.rt_layout.proofs.Rows.{grown}

length-free_rows : (t : Task) → length (free_rows t) ≡ suc t.capacity
length-free_rows t = ap suc (length-map (range_with_len 0 t.capacity) _ ∙ length-range_with_len 0 t.capacity)

-- first the free places, then the arguments
pub queues_are : (l : Layout) (t : Task) (free inputs : List ℕ) (at behind first_one : ℕ) (front all : List CellRow)
    → at ≡ length l.cells → free ≡ l.free ++ at ∷ [] → front ≡ l.cells ++ free_rows t → behind ≡ length front
    → first_one ≡ (if nat_lt 0 t.args then behind else 0) → inputs ≡ l.inputs ++ first_one ∷ []
    → all ≡ front ++ flat_map (input_rows t) (range_with_len 0 t.capacity)
    → ◌≡◌ {A = Layout} (record { cells = all; inputs = inputs; free = free; ready = l.ready; timer = l.timer })
    (with_queues l t)
queues_are l t free inputs at behind first_one front all p q r s w u v =
    let on_inputs = flat_map (input_rows t) (range_with_len 0 t.capacity) in
    let cells : all ≡ l.cells ++ queue_rows t = v ∙ (ap (λ xs. xs ++ on_inputs) r
    ∙ append_assoc l.cells (free_rows t) on_inputs) in
    let first : free ≡ l.free ++ length l.cells ∷ [] = q ∙ ap (λ k. l.free ++ k ∷ []) p in
    let number : behind ≡ length l.cells + 1 + t.capacity =
    omega (arith, s, ap length r, length-append l.cells (free_rows t), length-free_rows t) in
    let second : inputs ≡ l.inputs ++ (if nat_lt 0 t.args then length l.cells + 1 + t.capacity else 0) ∷ [] =
    u ∙ ap (λ k. l.inputs ++ k ∷ []) (w ∙ ap (λ k. if nat_lt 0 t.args then k else 0) number) in
    λ i. record { cells = cells i; inputs = second i; free = first i; ready = l.ready; timer = l.timer }

module _ (l : Layout) (t : Task) where
  cells_task : (b : Bool) → (if b then with_queues l t else without_queues l).cells ≡ l.cells
      ++ (if b then queue_rows t else [])
  cells_task true = refl
  cells_task false = sym (append-nil l.cells)

  free_task : (b : Bool) → (if b then with_queues l t else without_queues l).free ≡ l.free
      ++ (if b then length l.cells else 0) ∷ []
  free_task true = refl
  free_task false = refl

  inputs_task : (b : Bool) → (if b then with_queues l t else without_queues l).inputs ≡ l.inputs
      ++ (if b && nat_lt 0 t.args then length l.cells + 1 + t.capacity else 0) ∷ []
  inputs_task true = refl
  inputs_task false = refl

  ready_task : (b : Bool) → (if b then with_queues l t else without_queues l).ready ≡ l.ready
  ready_task true = refl
  ready_task false = refl

  timer_task : (b : Bool) → (if b then with_queues l t else without_queues l).timer ≡ l.timer
  timer_task true = refl
  timer_task false = refl

-- the numbers of first cells, where the first task's cells begin at this one
abbrev pub free_from : ℕ → List Task → List ℕ
free_from at [] = []
free_from at (t ∷ ts) = (if is_software t then at else 0) ∷ free_from (at + length (task_rows t)) ts

abbrev pub inputs_from : ℕ → List Task → List ℕ
inputs_from at [] = []
inputs_from at (t ∷ ts) = (if has_inputs t then at + 1 + t.capacity else 0) ∷ inputs_from (at + length (task_rows t)) ts

pub tasks_cells : (l : Layout) (ts : List Task) → (fold with_task l ts).cells ≡ l.cells ++ flat_map task_rows ts
tasks_cells l [] = sym (append-nil l.cells)
tasks_cells l (t ∷ ts) = grown l.cells (task_rows t) (flat_map task_rows ts) (with_task l t).cells _ _
    (cells_task l t (is_software t)) (tasks_cells (with_task l t) ts) refl

length_task : (l : Layout) (t : Task) → length (with_task l t).cells ≡ length l.cells + length (task_rows t)
length_task l t = ap length (cells_task l t (is_software t)) ∙ length-append l.cells (task_rows t)

pub tasks_free : (l : Layout) (ts : List Task) → (fold with_task l ts).free ≡ l.free ++ free_from (length l.cells) ts
tasks_free l [] = sym (append-nil l.free)
tasks_free l (t ∷ ts) =
    grown l.free ((if is_software t then length l.cells else 0) ∷ [])
    (free_from (length l.cells + length (task_rows t)) ts) (with_task l t).free _ _ (free_task l t (is_software t))
    (tasks_free (with_task l t) ts ∙ ap (λ k. (with_task l t).free ++ free_from k ts) (length_task l t)) refl

pub tasks_inputs : (l : Layout) (ts : List Task) → (fold with_task l ts).inputs ≡ l.inputs
    ++ inputs_from (length l.cells) ts
tasks_inputs l [] = sym (append-nil l.inputs)
tasks_inputs l (t ∷ ts) =
    grown l.inputs ((if has_inputs t then length l.cells + 1 + t.capacity else 0) ∷ [])
    (inputs_from (length l.cells + length (task_rows t)) ts) (with_task l t).inputs _ _
    (inputs_task l t (is_software t))
    (tasks_inputs (with_task l t) ts ∙ ap (λ k. (with_task l t).inputs ++ inputs_from k ts) (length_task l t)) refl

pub tasks_ready : (l : Layout) (ts : List Task) → (fold with_task l ts).ready ≡ l.ready
tasks_ready l ts = fold_leaves with_task (λ l. l.ready) (λ l t. ready_task l t (is_software t)) l ts

pub tasks_timer : (l : Layout) (ts : List Task) → (fold with_task l ts).timer ≡ l.timer
tasks_timer l ts = fold_leaves with_task (λ l. l.timer) (λ l t. timer_task l t (is_software t)) l ts

module _ (room : ℕ → ℕ) where
  abbrev pub level_grown : Layout → ℕ → Layout
  level_grown l p = with_level l p (room p)

  abbrev pub rows_of_levels : List ℕ → List CellRow
  rows_of_levels ps = flat_map (λ p. ready_rows p (room p)) ps

  abbrev pub ready_from : ℕ → List ℕ → List ℕ
  ready_from at [] = []
  ready_from at (p ∷ ps) = at ∷ ready_from (at + length (ready_rows p (room p))) ps

  pub levels_cells : (l : Layout) (ps : List ℕ) → (fold level_grown l ps).cells ≡ l.cells ++ rows_of_levels ps
  levels_cells l [] = sym (append-nil l.cells)
  levels_cells l (p ∷ ps) = grown l.cells (ready_rows p (room p)) (rows_of_levels ps) (level_grown l p).cells _ _ refl
      (levels_cells (level_grown l p) ps) refl

  pub levels_ready : (l : Layout) (ps : List ℕ) → (fold level_grown l ps).ready ≡ l.ready
      ++ ready_from (length l.cells) ps
  levels_ready l [] = sym (append-nil l.ready)
  levels_ready l (p ∷ ps) =
      grown l.ready (length l.cells ∷ []) (ready_from (length l.cells + length (ready_rows p (room p))) ps)
      (level_grown l p).ready _ _ refl
      (levels_ready (level_grown l p) ps ∙ ap (λ k. (level_grown l p).ready ++ ready_from k ps)
      (length-append l.cells (ready_rows p (room p)))) refl

  pub levels_inputs : (l : Layout) (ps : List ℕ) → (fold level_grown l ps).inputs ≡ l.inputs
  levels_inputs l ps = fold_leaves level_grown (λ l. l.inputs) (λ l p. refl) l ps

  pub levels_free : (l : Layout) (ps : List ℕ) → (fold level_grown l ps).free ≡ l.free
  levels_free l ps = fold_leaves level_grown (λ l. l.free) (λ l p. refl) l ps

  pub levels_timer : (l : Layout) (ps : List ℕ) → (fold level_grown l ps).timer ≡ l.timer
  levels_timer l ps = fold_leaves level_grown (λ l. l.timer) (λ l p. refl) l ps

module _ (room : ℕ) (l : Layout) where
  pub mono_cells : (o : Option Mono) → (with_mono room o l).cells ≡ l.cells ++ timed_rows room o
  mono_cells None = sym (append-nil l.cells)
  mono_cells (Some mono) = refl

  pub mono_inputs : (o : Option Mono) → (with_mono room o l).inputs ≡ l.inputs
  mono_inputs None = refl
  mono_inputs (Some mono) = refl

  pub mono_free : (o : Option Mono) → (with_mono room o l).free ≡ l.free
  mono_free None = refl
  mono_free (Some mono) = refl

  pub mono_ready : (o : Option Mono) → (with_mono room o l).ready ≡ l.ready
  mono_ready None = refl
  mono_ready (Some mono) = refl

-- what all tasks leave room for, those so far and the next leave room for
pub few_with_next : (old l : Layout) (tasks : List declared.Task) (i : ℕ) (t : declared.Task) → i < length tasks → t
    ≡ get_or tasks i t → l ≡ fold with_task old (map task_of (take i tasks))
    → length old.cells + length (flat_map task_rows (map task_of tasks)) < 65536 → length l.cells
    + length (task_rows (task_of t)) < 65536
few_with_next old l tasks i t within is so_far few =
    omega (
      arith,
      ap (λ l. length l.cells) so_far,
      ap length (tasks_cells old (map task_of (take i tasks))),
      length-append old.cells (flat_map task_rows (map task_of (take i tasks))),
      ap length (flat_map-map task_rows task_of (take i tasks)),
      ap length (flat_map-map task_rows task_of tasks),
      length-flat_map-take (λ u. task_rows (task_of u)) tasks i t within,
      ap (λ u. length (task_rows (task_of u))) is,
    )
