-- The cells of the timer queue by their numbers: first values, and what they belong to.
use Rattle.std.proofs.Common.{◌≡◌, ℕ, ◌+◌, ◌*◌, ◌<◌, List, ◌++◌, length, flat_map, Option, Some, None}
use Rattle.std.proofs.Common.{IsSome, slice_get, refl, ap, ◌∙◌, arith}
use Rattle.std.specs.Prelude.{codes}
use Rattle.std.specs.List.{AllByRecursion, range_with_len}
use Rattle.std.proofs.lemmas.List.{length-append}
use Rattle.rt_lemmas.proofs.Membership.{all_append, all_at}
use Rattle.rt_lemmas.proofs.Indices.{at_back, there_is}
use Rattle.rt_actions.specs.Location.{Guarded}
use Rattle.rt_actions.specs.Storage.{At}
use Rattle.rt_ids.specs.declared.ids.Section.TheVariants as section
use Rattle.rt_app.specs.declared.app.Mono.{Mono}
use Rattle.rt_app.specs.Tree.{App}
use Rattle.rt_app.specs.Level.{levels, armed_messages}
use Rattle.rt_app.specs.Layout.{Cell, task_cells, ready_cells, timer_column}
use Rattle.rt_app.specs.Layout.{timer_queue_cells, timer_cells, memory, home_of, timer_at}
use Rattle.rt_app.proofs.Laid.{all_made, on_ready}
use Rattle.rt_app.proofs.LaidQueues.{many, queue_at, home_is}

module _ (app : App) where
  abbrev from_heap : List Cell
  from_heap = timer_column app (codes "heap")

  abbrev from_handles : List Cell
  from_handles = timer_column app (codes "handle") ++ from_heap

  abbrev from_numbers : List Cell
  from_numbers = timer_column app (codes "arming") ++ from_handles

  length-column : (name : List ℕ) → length (timer_column app name) ≡ armed_messages app
  length-column name = many _ (armed_messages app)

  pub length-timer_queue_cells : length (timer_queue_cells app) ≡ 3 + 4 * armed_messages app
  length-timer_queue_cells = omega (
    arith,
    length-append (timer_column app (codes "at")) from_numbers,
    length-append (timer_column app (codes "arming")) from_handles,
    length-append (timer_column app (codes "handle")) from_heap,
    length-column (codes "at"),
    length-column (codes "arming"),
    length-column (codes "handle"),
    length-column (codes "heap"),
  )

  -- a cell of the timer queue, as it is at reset
  abbrev pub IsOfTimer : Cell → Type 0
  IsOfTimer cell = (cell.first ≡ 0) × (cell.home ≡ At (Guarded section.Timer))

  column_of_timer : (name : List ℕ) → AllByRecursion IsOfTimer (timer_column app name)
  column_of_timer name = all_made IsOfTimer _ (range_with_len 0 (armed_messages app)) (λ k. (refl, refl))

  all_of_timer : AllByRecursion IsOfTimer (timer_queue_cells app)
  all_of_timer =
      let handles = all_append IsOfTimer (timer_column app (codes "handle")) from_heap
      (column_of_timer (codes "handle")) (column_of_timer (codes "heap")) in
      let numbers = all_append IsOfTimer (timer_column app (codes "arming")) from_handles
      (column_of_timer (codes "arming")) handles in
      let instants = all_append IsOfTimer (timer_column app (codes "at")) from_numbers (column_of_timer (codes "at"))
      numbers in
      let one : (0 ≡ 0) × (At (Guarded section.Timer) ≡ At (Guarded section.Timer)) = (refl, refl) in
      (one, (one, (one, instants)))

  module _ (timed : IsSome app.mono) where
    opened : timer_cells app app.mono ≡ timer_queue_cells app
    opened = go app.mono timed
      where
        go : (o : Option Mono) → IsSome o → timer_cells app o ≡ timer_queue_cells app
        go None is = absurd cc
        go (Some mono) is = refl

    timer_lies : (j : ℕ) → slice_get (memory app) (timer_at app + j) ≡ slice_get (timer_queue_cells app) j
    timer_lies j =
        let readies = flat_map (ready_cells app) (levels app) in
        let behind : ℕ = length readies + j in
        queue_at app (timer_at app + j) (length (task_cells 0 app.tasks) + behind) (omega arith)
        ∙ (at_back (task_cells 0 app.tasks) (on_ready app) (length (task_cells 0 app.tasks) + behind) behind refl
        ∙ (at_back readies (timer_cells app app.mono) behind j refl ∙ ap (λ cells. slice_get cells j) opened))

    -- each cell from the first on
    pub timer_cell_lies : (j : ℕ) → j < 3 + 4 * armed_messages app
        → (cell : Cell) × (slice_get (memory app) (timer_at app + j) ≡ Some cell) × IsOfTimer cell
    timer_cell_lies j within =
        let one = there_is (timer_queue_cells app) j (omega (arith, length-timer_queue_cells)) in
        (one.0, timer_lies j ∙ one.1, all_at IsOfTimer (timer_queue_cells app) j one.0 all_of_timer one.1)

    pub timer_is_home : (j : ℕ) → j < 3 + 4 * armed_messages app
        → home_of app (timer_at app + j) ≡ At (Guarded section.Timer)
    timer_is_home j within =
        let one = timer_cell_lies j within in home_is app (timer_at app + j) one.0 one.1 ∙ one.2.1
