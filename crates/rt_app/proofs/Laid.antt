-- Where resources and local resources lie in memory, by the numbers of their cells.
use Rattle.std.proofs.Common.{◌≡◌, ℕ, zero, suc, ◌+◌, ◌<◌, ◌≤◌, List, [], ◌∷◌, ◌++◌, length, map}
use Rattle.std.proofs.Common.{flat_map, Some, option_map, slice_get, refl, ap, ◌∙◌, arith}
use Rattle.std.specs.Prelude.{codes}
use Rattle.std.specs.List.{AllByRecursion}
use Rattle.std.proofs.lemmas.Option.{slice_get-map, slice_get_within}
use Rattle.std.proofs.lemmas.List.{length-append}
use Rattle.rt_lemmas.proofs.Indices.{at_front, at_back, read_at, there_is}
use Rattle.rt_actions.specs.Location.{Guarded, Own}
use Rattle.rt_actions.specs.Storage.{At, Nowhere}
use Rattle.rt_ids.specs.declared.ids.Section.TheVariants as section
use Rattle.rt_app.specs.declared.app.Shared.{Shared}
use Rattle.rt_app.specs.declared.app.Local.{Local}
use Rattle.rt_app.specs.Tree.{App}
use Rattle.rt_app.specs.Level.{levels}
use Rattle.rt_app.specs.Layout.{Cell, resource_cells, local_cells, task_cells, ready_cells}
use Rattle.rt_app.specs.Layout.{timer_cells, memory, resource_at, local_at, home_of, row_of}
use Rattle.rt_app.specs.Layout.{layout}

abbrev pub resource_cell : ℕ → Shared → Cell
resource_cell r s = record { name = s.name; first = s.first; home = At (Guarded (section.Res r)) }

abbrev pub local_cell : ℕ → Local → Cell
local_cell n l = record { name = codes "local." ++ l.name; first = l.first; home = At (Own n) }

pub length-resource_cells : (r : ℕ) (ss : List Shared) → length (resource_cells r ss) ≡ length ss
length-resource_cells r [] = refl
length-resource_cells r (s ∷ ss) = ap suc (length-resource_cells (r + 1) ss)

pub length-local_cells : (n : ℕ) (ls : List Local) → length (local_cells n ls) ≡ length ls
length-local_cells n [] = refl
length-local_cells n (l ∷ ls) = ap suc (length-local_cells (n + 1) ls)

pub resource_cells_at : (r : ℕ) (ss : List Shared) (k : ℕ) → slice_get (resource_cells r ss) k
    ≡ option_map (resource_cell (r + k)) (slice_get ss k)
resource_cells_at r [] k = refl
resource_cells_at r (s ∷ ss) zero = let e : r ≡ r + 0 = omega arith in ap (λ j. Some (resource_cell j s)) e
resource_cells_at r (s ∷ ss) (suc k) = let e : r + 1 + k ≡ r + suc k = omega arith in
    resource_cells_at (r + 1) ss k ∙ ap (λ j. option_map (resource_cell j) (slice_get ss k)) e

pub local_cells_at : (n : ℕ) (ls : List Local) (k : ℕ) → slice_get (local_cells n ls) k
    ≡ option_map (local_cell (n + k)) (slice_get ls k)
local_cells_at n [] k = refl
local_cells_at n (l ∷ ls) zero = let e : n ≡ n + 0 = omega arith in ap (λ j. Some (local_cell j l)) e
local_cells_at n (l ∷ ls) (suc k) = let e : n + 1 + k ≡ n + suc k = omega arith in
    local_cells_at (n + 1) ls k ∙ ap (λ j. option_map (local_cell j) (slice_get ls k)) e

-- what is made of each number
pub all_made : {X : Type 0} (P : X → Type 0) (f : ℕ → X) (ks : List ℕ) → ((k : ℕ) → P (f k))
    → AllByRecursion P (map f ks)
all_made P f [] each = tt
all_made P f (k ∷ ks) each = (each k, all_made P f ks each)

module _ (app : App) where
  -- the cells of ready queues and of the timer queue
  abbrev pub on_ready : List Cell
  on_ready = flat_map (ready_cells app) (levels app) ++ timer_cells app app.mono

  abbrev pub on_queues : List Cell
  on_queues = task_cells 0 app.tasks ++ on_ready

  abbrev pub on_locals : List Cell
  on_locals = local_cells 0 app.locals ++ on_queues

  -- what stands at the number of a resource
  pub resource_lies : (r : ℕ) (s : Shared) → slice_get app.shared r ≡ Some s
      → slice_get (memory app) (resource_at app r) ≡ Some (resource_cell r s)
  resource_lies r s at =
      let within = slice_get_within app.shared r s at in
      let long = length-resource_cells 0 app.shared in
      let e : 0 + r ≡ r = omega arith in
      at_front (resource_cells 0 app.shared) on_locals r (omega arith)
      ∙ (resource_cells_at 0 app.shared r ∙ (ap (λ j. option_map (resource_cell j) (slice_get app.shared r)) e
      ∙ ap (option_map (resource_cell r)) at))

  -- and at the number of a local resource
  pub local_lies : (n : ℕ) (l : Local) → slice_get app.locals n ≡ Some l → slice_get (memory app) (local_at app n)
      ≡ Some (local_cell n l)
  local_lies n l at =
      let within = slice_get_within app.locals n l at in
      let long = length-resource_cells 0 app.shared in
      let long_too = length-local_cells 0 app.locals in
      let e : 0 + n ≡ n = omega arith in
      at_back (resource_cells 0 app.shared) on_locals (local_at app n) n (omega arith)
      ∙ (at_front (local_cells 0 app.locals) on_queues n (omega arith)
      ∙ (local_cells_at 0 app.locals n ∙ (ap (λ j. option_map (local_cell j) (slice_get app.locals n)) e
      ∙ ap (option_map (local_cell n)) at)))

  pub resource_is_home : (r : ℕ) → r < length app.shared → home_of app (resource_at app r)
      ≡ At (Guarded (section.Res r))
  resource_is_home r within =
      let one = there_is app.shared r within in
      read_at (λ cell. cell.home) (memory app) (resource_at app r) (resource_cell r one.0) Nowhere
      (resource_lies r one.0 one.1)

  pub local_is_home : (n : ℕ) → n < length app.locals → home_of app (local_at app n) ≡ At (Own n)
  local_is_home n within =
      let one = there_is app.locals n within in
      read_at (λ cell. cell.home) (memory app) (local_at app n) (local_cell n one.0) Nowhere (local_lies n one.0 one.1)

  pub long_enough : length app.shared + length app.locals ≤ length (memory app)
  long_enough = omega (
    arith,
    length-append (resource_cells 0 app.shared) on_locals,
    length-append (local_cells 0 app.locals) on_queues,
    length-resource_cells 0 app.shared,
    length-local_cells 0 app.locals,
  )

  -- the rows that a core takes
  pub resource_row : (r : ℕ) (s : Shared) → slice_get app.shared r ≡ Some s
      → slice_get (layout app).cells (resource_at app r) ≡ Some (record { name = s.name; first = s.first })
  resource_row r s at = slice_get-map row_of (memory app) (resource_at app r)
      ∙ ap (option_map row_of) (resource_lies r s at)
