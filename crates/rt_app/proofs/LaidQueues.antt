-- The cells of free places, arguments and ready queues by their numbers: names, first values, and what they belong to.
use Rattle.std.proofs.Common.{◌≡◌, ℕ, zero, suc, ◌+◌, ◌*◌, ◌<◌, ◌≤◌, true, List, [], ◌∷◌, ◌++◌, length, map, flat_map}
use Rattle.std.proofs.Common.{filter, take, Some, option_map, slice_get, Contains, refl, sym, ap, subst, ◌∙◌, arith}
use Rattle.std.proofs.Common.{inl, inr, if◌then◌else◌}
use Rattle.std.specs.Prelude.{nat_lt, codes, decimal}
use Rattle.std.specs.List.{AllByRecursion, range_with_len}
use Rattle.std.proofs.lemmas.Bool.{lt-ltb, le-ltb}
use Rattle.std.proofs.lemmas.Option.{same_Some, none-some, slice_get_within}
use Rattle.std.proofs.lemmas.List.{length-append, length-map}
use Rattle.std.proofs.lemmas.List.FromFn.{length-range_with_len}
use Rattle.rt_lemmas.proofs.Membership.{all_has, contains_cases, contains_none}
use Rattle.rt_lemmas.proofs.Indices.{at_front, at_back, read_at}
use Rattle.rt_ids.specs.Lists.{or_zero}
use Rattle.rt_actions.specs.Location.{Guarded}
use Rattle.rt_actions.specs.Storage.{At, In, Nowhere}
use Rattle.rt_ids.specs.declared.ids.Section.TheVariants as section
use Rattle.rt_app.specs.Tree.{Task, App}
use Rattle.rt_app.specs.Level.{is_software, levels}
use Rattle.rt_app.specs.Sending.{capacity_of}
use Rattle.rt_app.specs.Layout.{Cell, resource_cells, local_cells, free_cells, place_cells, task_cells, ready_cells}
use Rattle.rt_app.specs.Layout.{ready_room, timer_cells, memory, free_at, inputs_at, ready_at, home_of}
use Rattle.rt_app.proofs.Rising.{IsRising, those_rise}
use Rattle.rt_app.proofs.Laid.{length-resource_cells, length-local_cells, on_ready, on_queues, on_locals}

-- all things that one function makes of the first numbers
pub many : {X : Type 0} (f : ℕ → X) (n : ℕ) → length (map f (range_with_len 0 n)) ≡ n
many f n = length-map (range_with_len 0 n) f ∙ length-range_with_len 0 n

-- and one of them
mapped_at : {X : Type 0} (f : ℕ → X) (first count k : ℕ) → k < count → slice_get (map f (range_with_len first count)) k
    ≡ Some (f (first + k))
mapped_at f first zero k within = absurd (omega arith)
mapped_at f first (suc count) zero within = let e : first ≡ first + 0 = omega arith in ap (λ j. Some (f j)) e
mapped_at f first (suc count) (suc k) within =
    let e : first + 1 + k ≡ first + suc k = omega arith in
    mapped_at f (first + 1) count k (omega arith) ∙ ap (λ j. Some (f j)) e

pub mapped : {X : Type 0} (f : ℕ → X) (count k : ℕ) → k < count → slice_get (map f (range_with_len 0 count)) k
    ≡ Some (f k)
mapped f count k within = let e : 0 + k ≡ k = omega arith in mapped_at f 0 count k within ∙ ap (λ j. Some (f j)) e

-- pieces of one length in a row
piece_at : (f : ℕ → List Cell) (size first count p k : ℕ) → ((i : ℕ) → length (f i) ≡ size) → p < count → k < size
    → slice_get (flat_map f (range_with_len first count)) (p * size + k) ≡ slice_get (f (first + p)) k
piece_at f size first zero p k long within inside = absurd (omega arith)
piece_at f size first (suc count) zero k long within inside =
    let e : 0 * size + k ≡ k = omega arith in
    let d : first ≡ first + 0 = omega arith in
    ap (slice_get (f first ++ flat_map f (range_with_len (first + 1) count))) e
    ∙ (at_front (f first) (flat_map f (range_with_len (first + 1) count)) k (omega (arith, long first))
    ∙ ap (λ i. slice_get (f i) k) d)
piece_at f size first (suc count) (suc p) k long within inside =
    let d : first + 1 + p ≡ first + suc p = omega arith in
    at_back (f first) (flat_map f (range_with_len (first + 1) count)) (suc p * size + k) (p * size + k)
    (omega (arith, long first))
    ∙ (piece_at f size (first + 1) count p k long (omega arith) inside ∙ ap (λ i. slice_get (f i) k) d)

abbrev pub free_front : Task → List ℕ
free_front t = codes "free." ++ t.name ++ codes "."

abbrev pub input_front : Task → ℕ → List ℕ
input_front t place = codes "input." ++ t.name ++ codes "." ++ decimal place ++ codes "."

abbrev pub ready_front : ℕ → List ℕ
ready_front p = codes "ready." ++ decimal p ++ codes "."

abbrev pub queues_of : ℕ → Task → List Cell
queues_of n t = if is_software t then free_cells n t ++ flat_map (place_cells n t) (range_with_len 0 t.capacity) else []

-- the cells of a task behind those of the tasks before
task_at : (n : ℕ) (ts : List Task) (k : ℕ) (t : Task) (x : ℕ) → slice_get ts k ≡ Some t
    → x < length (queues_of (n + k) t)
    → slice_get (task_cells n ts) (length (task_cells n (take k ts)) + x) ≡ slice_get (queues_of (n + k) t) x
task_at n [] k t x at within = absurd (none-some t at)
task_at n (u ∷ ts) zero t x at within =
    let same : u ≡ t = same_Some u t at in
    let d : n ≡ n + 0 = omega arith in
    let here : slice_get (queues_of n u) x ≡ slice_get (queues_of (n + 0) t) x =
    ap (λ m. slice_get (queues_of m u) x) d ∙ ap (λ u. slice_get (queues_of (n + 0) u) x) same in
    let e : 0 + x ≡ x = omega arith in
    ap (slice_get (task_cells n (u ∷ ts))) e
    ∙ (at_front (queues_of n u) (task_cells (n + 1) ts) x
    (omega (arith, within, ap (λ m. length (queues_of m u)) d, ap (λ u. length (queues_of (n + 0) u)) same)) ∙ here)
task_at n (u ∷ ts) (suc k) t x at within =
    let d : n + 1 + k ≡ n + suc k = omega arith in
    at_back (queues_of n u) (task_cells (n + 1) ts) (length (task_cells n (u ∷ take k ts)) + x)
    (length (task_cells (n + 1) (take k ts)) + x)
    (omega (arith, length-append (queues_of n u) (task_cells (n + 1) (take k ts))))
    ∙ (task_at (n + 1) ts k t x at (omega (arith, within, ap (λ m. length (queues_of m t)) d))
    ∙ ap (λ m. slice_get (queues_of m t) x) d)

-- the cells of a level behind those of the levels below
level_at : (f : ℕ → List Cell) (ps : List ℕ) (p x : ℕ) → IsRising ps → Contains ps p → x < length (f p)
    → slice_get (flat_map f ps) (length (flat_map f (filter (λ q. nat_lt q p) ps)) + x) ≡ slice_get (f p) x
level_at f [] p x rising is within = absurd (contains_none p is)
level_at f (q ∷ ps) p x rising is within = elim (contains_cases q ps p is) [
  | inl same ↦
      (let none : filter (λ q. nat_lt q p) (q ∷ ps) ≡ [] =
      ap (λ b. if b then q ∷ filter (λ q. nat_lt q p) ps else filter (λ q. nat_lt q p) ps) (le-ltb q p (omega arith))
      ∙ none_below p ps (subst (λ q. AllByRecursion (λ y. q < y) ps) same rising.0) in
      let e : length (flat_map f (filter (λ q. nat_lt q p) (q ∷ ps))) + x ≡ x =
      omega (arith, ap (λ ps. length (flat_map f ps)) none) in
      ap (slice_get (f q ++ flat_map f ps)) e ∙ (at_front (f q) (flat_map f ps) x
      (omega (arith, within, ap (λ p. length (f p)) same)) ∙ ap (λ p. slice_get (f p) x) same))
  | inr behind ↦
      (let less : q < p = all_has (λ y. q < y) ps p rising.0 behind in
      let more : filter (λ q. nat_lt q p) (q ∷ ps) ≡ q ∷ filter (λ q. nat_lt q p) ps =
      ap (λ b. if b then q ∷ filter (λ q. nat_lt q p) ps else filter (λ q. nat_lt q p) ps) (lt-ltb q p less) in
      at_back (f q) (flat_map f ps) (length (flat_map f (filter (λ q. nat_lt q p) (q ∷ ps))) + x)
      (length (flat_map f (filter (λ q. nat_lt q p) ps)) + x)
      (omega (
        arith,
        ap (λ ps. length (flat_map f ps)) more,
        length-append (f q)
            (flat_map f (filter (λ q. nat_lt q p) ps)),
      ))
      ∙ level_at f ps p x rising.1 behind within)
]
  where
    none_below : (p : ℕ) (ps : List ℕ) → AllByRecursion (λ y. p < y) ps → filter (λ q. nat_lt q p) ps ≡ []
    none_below p [] all = refl
    none_below p (q ∷ ps) all = ap (λ b. if b then q ∷ filter (λ q. nat_lt q p) ps else filter (λ q. nat_lt q p) ps)
        (le-ltb q p (let h = all.0 in omega arith)) ∙ none_below p ps all.1

module _ (app : App) where
  -- behind resources and local resources
  pub queue_at : (c x : ℕ) → c ≡ length app.shared + length app.locals + x → slice_get (memory app) c
      ≡ slice_get (on_queues app) x
  queue_at c x is =
      at_back (resource_cells 0 app.shared) (on_locals app) c (length app.locals + x)
      (omega (arith, length-resource_cells 0 app.shared))
      ∙ at_back (local_cells 0 app.locals) (on_queues app) (length app.locals + x) x
      (omega (arith, length-local_cells 0 app.locals))

  -- a cell of the queues of a software task
  cell_of_task : (n : ℕ) (t : Task) (x : ℕ) (cell : Cell) → slice_get app.tasks n ≡ Some t → slice_get (queues_of n t) x
      ≡ Some cell
      → slice_get (memory app) (free_at app n + x) ≡ Some cell
  cell_of_task n t x cell at is =
      let e : 0 + n ≡ n = omega arith in
      let here : slice_get (task_cells 0 app.tasks) (length (task_cells 0 (take n app.tasks)) + x) ≡ Some cell =
      task_at 0 app.tasks n t x at (omega (
        arith,
        slice_get_within (queues_of n t) x cell is,
        ap (λ m. length (queues_of m t)) e,
      ))
      ∙ (ap (λ m. slice_get (queues_of m t) x) e ∙ is) in
      queue_at (free_at app n + x) (length (task_cells 0 (take n app.tasks)) + x) (omega arith)
      ∙ (at_front (task_cells 0 app.tasks) (on_ready app) (length (task_cells 0 (take n app.tasks)) + x)
      (slice_get_within (task_cells 0 app.tasks) (length (task_cells 0 (take n app.tasks)) + x) cell here)
      ∙ here)

  pub capacity_is : (n : ℕ) (t : Task) → slice_get app.tasks n ≡ Some t → capacity_of app n ≡ t.capacity
  capacity_is n t at = ap (λ o. or_zero (option_map (λ t. t.capacity) o)) at

  pub home_is : (c : ℕ) (cell : Cell) → slice_get (memory app) c ≡ Some cell → home_of app c ≡ cell.home
  home_is c cell at = read_at (λ cell. cell.home) (memory app) c cell Nowhere at

  module _ (n : ℕ) (t : Task) (at : slice_get app.tasks n ≡ Some t) (software : is_software t ≡ true) where
    abbrev free_cell : List ℕ → ℕ → Cell
    free_cell name first = record { name = free_front t ++ name; first = first; home = At (Guarded (section.Free n)) }

    abbrev inputs : List Cell
    inputs = flat_map (place_cells n t) (range_with_len 0 t.capacity)

    opened : queues_of n t ≡ free_cells n t ++ inputs
    opened = ap (λ b. if b then free_cells n t ++ inputs else []) software

    length-free_cells : length (free_cells n t) ≡ suc t.capacity
    length-free_cells = ap suc (many _ t.capacity)

    in_free : (j : ℕ) (cell : Cell) → j ≤ t.capacity → slice_get (free_cells n t) j ≡ Some cell
        → slice_get (memory app) (free_at app n + j) ≡ Some cell
    in_free j cell within is =
        cell_of_task n t j cell at (ap (λ cells. slice_get cells j) opened
        ∙ (at_front (free_cells n t) inputs j (omega (arith, length-free_cells)) ∙ is))

    pub free_count_lies : slice_get (memory app) (free_at app n) ≡ Some (free_cell (codes "count") t.capacity)
    free_count_lies = let e : free_at app n ≡ free_at app n + 0 = omega arith in
        ap (slice_get (memory app)) e ∙ in_free 0 (free_cell (codes "count") t.capacity) (omega arith) refl

    pub free_place_lies : (k : ℕ) → k < t.capacity → slice_get (memory app) (free_at app n + suc k)
        ≡ Some (free_cell (decimal k) k)
    free_place_lies k within = in_free (suc k) (free_cell (decimal k) k) (omega arith)
        (mapped (λ k. free_cell (decimal k) k) t.capacity k within)

    abbrev input_cell : ℕ → ℕ → Cell
    input_cell place k = record {
      name = input_front t place ++ decimal k;
      first = 0;
      home =
          In (record { task = n; place = place });
    }

    pub input_lies : (place k : ℕ) → place < t.capacity → k < t.args
        → slice_get (memory app) (inputs_at app n + place * t.args + k) ≡ Some (input_cell place k)
    input_lies place k within inside =
        let x = suc t.capacity + (place * t.args + k) in
        let e : inputs_at app n + place * t.args + k ≡ free_at app n + x = omega (arith, capacity_is n t at) in
        let d : 0 + place ≡ place = omega arith in
        ap (slice_get (memory app)) e
        ∙ cell_of_task n t x (input_cell place k) at
        (ap (λ cells. slice_get cells x) opened
        ∙ (at_back (free_cells n t) inputs x (place * t.args + k) (omega (arith, length-free_cells))
        ∙ (piece_at (place_cells n t) t.args 0 t.capacity place k (λ i. many _ t.args) within inside
        ∙ (ap (λ i. slice_get (place_cells n t i) k) d ∙ mapped (input_cell place) t.args k inside))))

    pub free_is_home : (j : ℕ) → j ≤ t.capacity → home_of app (free_at app n + j) ≡ At (Guarded (section.Free n))
    free_is_home zero within = let e : free_at app n + 0 ≡ free_at app n = omega arith in
        ap (home_of app) e ∙ home_is (free_at app n) (free_cell (codes "count") t.capacity) free_count_lies
    free_is_home (suc k) within = home_is (free_at app n + suc k) (free_cell (decimal k) k)
        (free_place_lies k (omega arith))

    pub input_is_home : (place k : ℕ) → place < t.capacity → k < t.args
        → home_of app (inputs_at app n + place * t.args + k) ≡ In (record { task = n; place = place })
    input_is_home place k within inside = home_is (inputs_at app n + place * t.args + k) (input_cell place k)
        (input_lies place k within inside)

  module _ (p : ℕ) (is : Contains (levels app) p) where
    abbrev ready_cell : List ℕ → Cell
    ready_cell name = record { name = ready_front p ++ name; first = 0; home = At (Guarded (section.Ready p)) }

    length-ready_cells : length (ready_cells app p) ≡ suc (suc (ready_room app p))
    length-ready_cells = ap suc (ap suc (many _ (ready_room app p)))

    in_ready : (j : ℕ) (cell : Cell) → j < 2 + ready_room app p → slice_get (ready_cells app p) j ≡ Some cell
        → slice_get (memory app) (ready_at app p + j) ≡ Some cell
    in_ready j cell within there =
        let below = flat_map (ready_cells app) (filter (λ q. nat_lt q p) (levels app)) in
        let readies = flat_map (ready_cells app) (levels app) in
        let here : slice_get readies (length below + j) ≡ Some cell =
        level_at (ready_cells app) (levels app) p j (those_rise _ 256) is (omega (arith, length-ready_cells))
        ∙ there in
        queue_at (ready_at app p + j) (length (task_cells 0 app.tasks) + (length below + j)) (omega arith)
        ∙ (at_back (task_cells 0 app.tasks) (on_ready app) (length (task_cells 0 app.tasks) + (length below + j))
        (length below + j) refl
        ∙ (at_front readies (timer_cells app app.mono) (length below + j)
        (slice_get_within readies (length below + j) cell here) ∙ here))

    pub ready_head_lies : slice_get (memory app) (ready_at app p) ≡ Some (ready_cell (codes "head"))
    ready_head_lies = let e : ready_at app p ≡ ready_at app p + 0 = omega arith in
        ap (slice_get (memory app)) e ∙ in_ready 0 (ready_cell (codes "head")) (omega arith) refl

    pub ready_count_lies : slice_get (memory app) (ready_at app p + 1) ≡ Some (ready_cell (codes "count"))
    ready_count_lies = in_ready 1 (ready_cell (codes "count")) (omega arith) refl

    pub ready_entry_lies : (k : ℕ) → k < ready_room app p → slice_get (memory app) (ready_at app p + (2 + k))
        ≡ Some (ready_cell (codes "at." ++ decimal k))
    ready_entry_lies k within =
        let e : suc (suc k) ≡ 2 + k = omega arith in
        ap (λ j. slice_get (memory app) (ready_at app p + j)) (sym e)
        ∙ in_ready (suc (suc k)) (ready_cell (codes "at." ++ decimal k)) (omega arith)
        (mapped (λ k. ready_cell (codes "at." ++ decimal k)) (ready_room app p) k within)

    pub ready_is_home : (j : ℕ) → j < 2 + ready_room app p → home_of app (ready_at app p + j)
        ≡ At (Guarded (section.Ready p))
    ready_is_home zero within = let e : ready_at app p + 0 ≡ ready_at app p = omega arith in
        ap (home_of app) e ∙ home_is (ready_at app p) (ready_cell (codes "head")) ready_head_lies
    ready_is_home (suc zero) within = home_is (ready_at app p + 1) (ready_cell (codes "count")) ready_count_lies
    ready_is_home (suc (suc k)) within =
        let e : suc (suc k) ≡ 2 + k = omega arith in
        ap (λ j. home_of app (ready_at app p + j)) e ∙ home_is (ready_at app p + (2 + k))
        (ready_cell (codes "at." ++ decimal k)) (ready_entry_lies k (omega arith))
