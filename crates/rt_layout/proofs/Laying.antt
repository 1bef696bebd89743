-- The layout that has grown by all queues is the one that is defined.
use Rattle.std.proofs.Common.{◌≡◌, ℕ, zero, suc, ◌+◌, ◌<◌, ◌≤◌, Bool, true, false, List, [], ◌∷◌, ◌++◌, length, map}
use Rattle.std.proofs.Common.{flat_map, filter, take, get_or, Option, Some, None, option_map, slice_get, refl, sym}
use Rattle.std.proofs.Common.{ap, subst, ◌∙◌, append_assoc, append-nil, if◌then◌else◌, inl, inr, arith}
use Rattle.std.specs.Prelude.{codes, decimal, nat_lt}
use Rattle.std.specs.List.{AllByRecursion, range_with_len, list_any}
use Rattle.std.proofs.lemmas.Bool.{lt-ltb, le-ltb, cases_lt}
use Rattle.std.proofs.lemmas.Option.{slice_get_within, get_or_from_slice_get}
use Rattle.std.proofs.lemmas.List.{length-append, length-map, map-append}
use Rattle.std.proofs.lemmas.List.Elements.{filter-append}
use Rattle.std.proofs.lemmas.Simd.{map-map}
use Rattle.rt_lemmas.proofs.Lists.{map_alike, flat_map_next}
use Rattle.rt_ids.specs.Lists.{those_below, or_zero}
use Rattle.rt_app.specs.declared.app.Shared.{Shared}
use Rattle.rt_app.specs.declared.app.Local.{Local}
use Rattle.rt_app.specs.declared.app.Mono.{Mono}
use Rattle.rt_app.specs.Tree.{Task, App}
use Rattle.rt_app.specs.Level.{is_software, is_of_level, levels, armed_messages}
use Rattle.rt_app.specs.Layout.{Cell, memory, row_of, resource_cells, local_cells, free_cells, place_cells}
use Rattle.rt_app.specs.Layout.{task_cells, ready_cells, ready_room, timer_column, timer_cells, free_at, inputs_at}
use Rattle.rt_app.specs.Layout.{ready_at, has_inputs, numbers_of}
use Rattle.rt_app.proofs.SoundCeilings.{those_all}
use Rattle.rt_app.proofs.Laid.{on_ready, on_queues, on_locals}
use Rattle.rt_actions.specs.Location.{Guarded}
use Rattle.rt_actions.specs.Storage.{At}
use Rattle.rt_ids.specs.declared.ids.Section.TheVariants as section
use Rattle.rt_ids.specs.declared.cell.CellRow.{CellRow}
use Rattle.rt_ids.proofs.Lists.{those_next}
use Rattle.rt_layout.specs.Inside.Rows.{row, task_front, resource_row, local_row, free_rows, input_rows, queue_rows}
use Rattle.rt_layout.specs.Inside.Rows.{task_rows, ready_front, ready_rows, zero_rows, timed_rows}
use Rattle.rt_layout.proofs.Growing.{free_from, inputs_from, rows_of_levels, ready_from}
use Rattle.rt_frames.proofs.Below.{below_none}

resource_rows_are : (r : ℕ) (ss : List Shared) → map row_of (resource_cells r ss) ≡ map resource_row ss
resource_rows_are r [] = refl
resource_rows_are r (s ∷ ss) = ap (λ rows. resource_row s ∷ rows) (resource_rows_are (r + 1) ss)

local_rows_are : (n : ℕ) (ls : List Local) → map row_of (local_cells n ls) ≡ map local_row ls
local_rows_are n [] = refl
local_rows_are n (l ∷ ls) = ap (λ rows. local_row l ∷ rows) (local_rows_are (n + 1) ls)

free_rows_are : (n : ℕ) (t : Task) → map row_of (free_cells n t) ≡ free_rows t
free_rows_are n t =
    let front = task_front (codes "free.") t in
    let cell : ℕ → Cell = λ k. record { name = front ++ decimal k; first = k; home = At (Guarded (section.Free n)) } in
    ap (λ rows. row (front ++ codes "count") t.capacity ∷ rows) (map-map row_of cell (range_with_len 0 t.capacity))

place_rows_are : (n : ℕ) (t : Task) (ks : List ℕ) → map row_of (flat_map (place_cells n t) ks)
    ≡ flat_map (input_rows t) ks
place_rows_are n t [] = refl
place_rows_are n t (k ∷ ks) =
    map-append row_of (place_cells n t k) (flat_map (place_cells n t) ks)
    ∙ (ap (λ rows. rows ++ map row_of (flat_map (place_cells n t) ks)) (map-map row_of _ (range_with_len 0 t.args))
    ∙ ap (λ rows. input_rows t k ++ rows) (place_rows_are n t ks))

task_rows_are : (n : ℕ) (ts : List Task) → map row_of (task_cells n ts) ≡ flat_map task_rows ts
task_rows_are n [] = refl
task_rows_are n (t ∷ ts) =
    map-append row_of (if is_software t then queues else []) (task_cells (n + 1) ts)
    ∙ (ap (λ rows. rows ++ map row_of (task_cells (n + 1) ts)) (one (is_software t))
    ∙ ap (λ rows. task_rows t ++ rows) (task_rows_are (n + 1) ts))
  where
    queues : List Cell
    queues = free_cells n t ++ flat_map (place_cells n t) (range_with_len 0 t.capacity)

    one : (b : Bool) → map row_of (if b then queues else []) ≡ (if b then queue_rows t else [])
    one true =
        map-append row_of (free_cells n t) (flat_map (place_cells n t) (range_with_len 0 t.capacity))
        ∙ (ap (λ rows. rows ++ map row_of (flat_map (place_cells n t) (range_with_len 0 t.capacity)))
        (free_rows_are n t)
        ∙ ap (λ rows. free_rows t ++ rows) (place_rows_are n t (range_with_len 0 t.capacity)))
    one false = refl

module _ (app : App) where
  level_rows_are : (p : ℕ) → map row_of (ready_cells app p) ≡ ready_rows p (ready_room app p)
  level_rows_are p =
      ap (λ rows. row (ready_front p ++ codes "head") 0 ∷ row (ready_front p ++ codes "count") 0 ∷ rows)
      (map-map row_of _ (range_with_len 0 (ready_room app p))
      ∙ map_alike _ _ (λ k. ap (λ name. row name 0) (sym (append_assoc (ready_front p) (codes "at.") (decimal k))))
      (range_with_len 0 (ready_room app p)))

  ready_rows_are : (ps : List ℕ) → map row_of (flat_map (ready_cells app) ps) ≡ rows_of_levels (ready_room app) ps
  ready_rows_are [] = refl
  ready_rows_are (p ∷ ps) =
      map-append row_of (ready_cells app p) (flat_map (ready_cells app) ps)
      ∙ (ap (λ rows. rows ++ map row_of (flat_map (ready_cells app) ps)) (level_rows_are p)
      ∙ ap (λ rows. ready_rows p (ready_room app p) ++ rows) (ready_rows_are ps))

  -- the columns of the timer queue, whose names are known
  column_rows_are : (name front : List ℕ)
      → ((k : ℕ) → codes "timer." ++ (name ++ codes "." ++ decimal k) ≡ front ++ decimal k)
      → map row_of (timer_column app name) ≡ zero_rows front (armed_messages app)
  column_rows_are name front same =
      map-map row_of _ (range_with_len 0 (armed_messages app))
      ∙ map_alike _ _ (λ k. ap (λ name. row name 0) (same k)) (range_with_len 0 (armed_messages app))

  both_rows : (cells more : List Cell) (rows others : List CellRow) → map row_of cells ≡ rows
      → map row_of more ≡ others → map row_of (cells ++ more) ≡ rows ++ others
  both_rows cells more rows others first second =
      map-append row_of cells more ∙ (ap (λ xs. xs ++ map row_of more) first ∙ ap (λ xs. rows ++ xs) second)

  timer_rows_are : (o : Option Mono) → map row_of (timer_cells app o) ≡ timed_rows (armed_messages app) o
  timer_rows_are None = refl
  timer_rows_are (Some mono) =
      let instants = column_rows_are (codes "at") (codes "timer.at.") (λ k. refl) in
      let armings = column_rows_are (codes "arming") (codes "timer.arming.") (λ k. refl) in
      let handles = column_rows_are (codes "handle") (codes "timer.handle.") (λ k. refl) in
      let heap = column_rows_are (codes "heap") (codes "timer.heap.") (λ k. refl) in
      ap (λ rows. row (codes "timer.count") 0 ∷ row (codes "timer.armings") 0 ∷ row (codes "timer.given") 0 ∷ rows)
      (both_rows _ _ _ _ instants (both_rows _ _ _ _ armings (both_rows _ _ _ _ handles heap)))

  pub rows_are : map row_of (memory app)
      ≡ map resource_row app.shared
      ++ (map local_row app.locals ++ (flat_map task_rows app.tasks
      ++ (rows_of_levels (ready_room app) (levels app) ++ timed_rows (armed_messages app) app.mono)))
  rows_are =
      both_rows _ (on_locals app) _ _ (resource_rows_are 0 app.shared)
      (both_rows _ (on_queues app) _ _ (local_rows_are 0 app.locals)
      (both_rows _ (on_ready app) _ _ (task_rows_are 0 app.tasks)
      (both_rows _ _ _ _ (ready_rows_are (levels app)) (timer_rows_are app.mono))))

-- numbers of first cells, task by task
software_free : (at : ℕ → ℕ) (n : ℕ) (ts : List Task) → ((k : ℕ) (t : Task) → slice_get ts k ≡ Some t → at (n + suc k)
    ≡ at (n + k) + length (task_rows t))
    → numbers_of is_software at n ts ≡ free_from (at n) ts
software_free at n [] next = refl
software_free at n (t ∷ ts) next =
    let here : n + 1 ≡ n + suc 0 = omega arith in
    let there : n + 0 ≡ n = omega arith in
    let step : at (n + 1) ≡ at n + length (task_rows t) = ap at here
    ∙ (next 0 t refl ∙ ap (λ k. at k + length (task_rows t)) there) in
    ap (λ rest. (if is_software t then at n else 0) ∷ rest)
    (software_free at (n + 1) ts
    (λ k u is. (let e : n + 1 + suc k ≡ n + suc (suc k) = omega arith in let d : n + suc k ≡ n + 1 + k = omega arith in
    ap at e ∙ (next (suc k) u is ∙ ap (λ j. at j + length (task_rows u)) d)))
    ∙ ap (λ k. free_from k ts) step)

software_inputs : (at inputs : ℕ → ℕ) (n : ℕ) (ts : List Task)
    → ((k : ℕ) (t : Task) → slice_get ts k ≡ Some t → (at (n + suc k) ≡ at (n + k) + length (task_rows t))
    × (inputs (n + k) ≡ at (n + k) + 1 + t.capacity))
    → numbers_of has_inputs inputs n ts ≡ inputs_from (at n) ts
software_inputs at inputs n [] next = refl
software_inputs at inputs n (t ∷ ts) next =
    let here : n + 1 ≡ n + suc 0 = omega arith in
    let there : n + 0 ≡ n = omega arith in
    let step : at (n + 1) ≡ at n + length (task_rows t) = ap at here
    ∙ ((next 0 t refl).0 ∙ ap (λ k. at k + length (task_rows t)) there) in
    let first : inputs n ≡ at n + 1 + t.capacity = ap inputs (sym there)
    ∙ ((next 0 t refl).1 ∙ ap (λ k. at k + 1 + t.capacity) there) in
    ap (λ m. (if has_inputs t then m else 0) ∷ numbers_of has_inputs inputs (n + 1) ts) first
    ∙ ap (λ rest. (if has_inputs t then at n + 1 + t.capacity else 0) ∷ rest)
    (software_inputs at inputs (n + 1) ts
    (λ k u is. (let e : n + 1 + suc k ≡ n + suc (suc k) = omega arith in let d : n + suc k
    ≡ n + 1 + k = omega arith in (
      ap at e ∙ ((next (suc k) u is).0 ∙ ap (λ j. at j + length (task_rows u)) d),
      ap inputs (sym d) ∙ ((next (suc k) u is).1 ∙ ap (λ j. at j + 1 + u.capacity) d),
    )))
    ∙ ap (λ k. inputs_from k ts) step)

module _ (app : App) where
  pub length-task_cells : (ts : List Task) → length (task_cells 0 ts) ≡ length (flat_map task_rows ts)
  length-task_cells ts = sym (length-map (task_cells 0 ts) row_of) ∙ ap length (task_rows_are 0 ts)

  free_next : (k : ℕ) (t : Task) → slice_get app.tasks k ≡ Some t → free_at app (suc k) ≡ free_at app k
      + length (task_rows t)
  free_next k t is =
      let within = slice_get_within app.tasks k t is in
      let same : t ≡ get_or app.tasks k t = sym (get_or_from_slice_get app.tasks k t t is) in
      let one : k + 1 ≡ suc k = omega arith in
      omega (
        arith,
        length-task_cells (take (suc k) app.tasks),
        length-task_cells (take k app.tasks),
        ap (λ j. length (flat_map task_rows (take j app.tasks))) one,
        ap length (flat_map_next task_rows app.tasks k t within same),
        length-append (flat_map task_rows (take k app.tasks)) (task_rows t),
      )

  pub free_are : numbers_of is_software (free_at app) 0 app.tasks ≡ free_from (length app.shared + length app.locals)
      app.tasks
  free_are =
      software_free (free_at app) 0 app.tasks (λ k t is. (let e : 0 + suc k ≡ suc k = omega arith in let d : k ≡ 0 + k =
      omega arith in
      ap (free_at app) e ∙ (free_next k t is ∙ ap (λ j. free_at app j + length (task_rows t)) d)))
      ∙ ap (λ k. free_from k app.tasks) (omega arith)

  pub inputs_are : numbers_of has_inputs (inputs_at app) 0 app.tasks
      ≡ inputs_from (length app.shared + length app.locals) app.tasks
  inputs_are =
      software_inputs (free_at app) (inputs_at app) 0 app.tasks
      (λ k t is. (let e : 0 + suc k ≡ suc k = omega arith in let d : k ≡ 0 + k = omega arith in (
        ap (free_at app) e ∙ (free_next k t is ∙ ap (λ j. free_at app j + length (task_rows t)) d),
        ap (inputs_at app) (sym d) ∙ (ap (λ o. free_at app k + 1 + or_zero (option_map (λ t. t.capacity) o)) is
            ∙ ap (λ j. free_at app j + 1 + t.capacity) d),
      )))
      ∙ ap (λ k. inputs_from k app.tasks) (omega arith)

-- levels below a number, and the ready queues in front of one's
all_pass : (p : ℕ) (ps : List ℕ) → AllByRecursion (λ q. q < p) ps → filter (λ q. nat_lt q p) ps ≡ ps
all_pass p [] all = refl
all_pass p (q ∷ ps) all =
    ap (λ b. if b then q ∷ filter (λ q. nat_lt q p) ps else filter (λ q. nat_lt q p) ps) (lt-ltb q p all.0)
    ∙ ap (λ rest. q ∷ rest) (all_pass p ps all.1)

pub those_less : (test : ℕ → Bool) (n : ℕ) → AllByRecursion (λ q. q < n) (those_below test n)
those_less test n = those_all (λ q. q < n) test n (λ q below is. below)

filter_below : (test : ℕ → Bool) (n p : ℕ) → p ≤ n → filter (λ q. nat_lt q p) (those_below test n) ≡ those_below test p
filter_below test zero p less =
    let e : p ≡ 0 = omega arith in
    ap (filter (λ q. nat_lt q p)) (below_none test) ∙ sym (ap (those_below test) e ∙ below_none test)
filter_below test (suc n) p less = elim (cases_lt n p) [
  | inl below ↦ (let e : suc n ≡ p = omega arith in subst (λ m. filter (λ q. nat_lt q p) (those_below test m)
      ≡ those_below test p) (sym e) (all_pass p (those_below test p) (those_less test p)))
  | inr not_below ↦
      ap (filter (λ q. nat_lt q p)) (those_next test n)
      ∙ (filter-append (λ q. nat_lt q p) (those_below test n) (if test n then n ∷ [] else [])
      ∙ (ap (λ rest. filter (λ q. nat_lt q p) (those_below test n) ++ rest) (last (test n) (le-ltb n p (omega arith)))
      ∙ (append-nil (filter (λ q. nat_lt q p) (those_below test n)) ∙ filter_below test n p (omega arith))))
]
  where
    last : (b : Bool) → nat_lt n p ≡ false → filter (λ q. nat_lt q p) (if b then n ∷ [] else []) ≡ []
    last true is = ap (λ b. if b then n ∷ [] else []) is
    last false is = refl

ready_push : (room : ℕ → ℕ) (at p : ℕ) (ps : List ℕ) → ready_from room at (ps ++ p ∷ []) ≡ ready_from room at ps
    ++ (at + length (rows_of_levels room ps)) ∷ []
ready_push room at p [] = let e : at ≡ at + 0 = omega arith in ap (λ k. k ∷ []) e
ready_push room at p (q ∷ ps) =
    let rows = ready_rows q (room q) in
    let e : at + length rows + length (rows_of_levels room ps) ≡ at + length (rows ++ rows_of_levels room ps) =
    omega (arith, length-append rows (rows_of_levels room ps)) in
    ap (λ rest. at ∷ rest) (ready_push room (at + length rows) p ps
    ∙ ap (λ k. ready_from room (at + length rows) ps ++ k ∷ []) e)

map_ready : (test : ℕ → Bool) (room g : ℕ → ℕ) (at n : ℕ)
    → ((p : ℕ) → p < n → g p ≡ at + length (rows_of_levels room (those_below test p)))
    → map g (those_below test n) ≡ ready_from room at (those_below test n)
map_ready test room g at zero is = ap (map g) (below_none test) ∙ sym (ap (ready_from room at) (below_none test))
map_ready test room g at (suc n) is =
    ap (map g) (those_next test n)
    ∙ (map-append g (those_below test n) (if test n then n ∷ [] else [])
    ∙ (ap (λ rest. rest ++ map g (if test n then n ∷ [] else []))
    (map_ready test room g at n (λ p less. is p (omega arith)))
    ∙ (last (test n) (is n (omega arith)) ∙ sym (ap (ready_from room at) (those_next test n)))))
  where
    before : List ℕ
    before = those_below test n

    last : (b : Bool) → g n ≡ at + length (rows_of_levels room before)
        → ready_from room at before ++ map g (if b then n ∷ [] else [])
        ≡ ready_from room at (before ++ (if b then n ∷ [] else []))
    last true same = ap (λ k. ready_from room at before ++ k ∷ []) same ∙ sym (ready_push room at n before)
    last false same = append-nil (ready_from room at before) ∙ ap (ready_from room at) (sym (append-nil before))

module _ (app : App) where
  abbrev is_level : ℕ → Bool
  is_level p = list_any (is_of_level p) app.tasks

  pub length-ready : (ps : List ℕ)
      → length (flat_map (ready_cells app) ps) ≡ length (rows_of_levels (ready_room app) ps)
  length-ready ps = sym (length-map (flat_map (ready_cells app) ps) row_of) ∙ ap length (ready_rows_are app ps)

  pub ready_are : map (ready_at app) (levels app) ≡ ready_from (ready_room app)
      (length app.shared + length app.locals + length (flat_map task_rows app.tasks)) (levels app)
  ready_are = map_ready is_level (ready_room app) (ready_at app) _ 256 each
    where
      each : (p : ℕ) → p < 256 → ready_at app p ≡ length app.shared + length app.locals
          + length (flat_map task_rows app.tasks) + length (rows_of_levels (ready_room app) (those_below is_level p))
      each p less = omega (
        arith,
        length-task_cells app app.tasks,
        ap (λ ps. length (flat_map (ready_cells app) ps)) (filter_below is_level 256 p (omega arith)),
        length-ready (those_below is_level p),
      )
