-- How long the names of cells are.
use Rattle.std.proofs.Common.{ℕ, ◌+◌, ◌≤◌, Bool, true, false, List, [], ◌∷◌}
use Rattle.std.proofs.Common.{◌++◌, codes}
use Rattle.std.proofs.Common.{decimal, length, map, flat_map, if◌then◌else◌, Option, Some, None, arith}
use Rattle.std.proofs.Common.{length-append}
use Rattle.std.specs.List.{AllByRecursion, range_with_len}
use Rattle.rt_lemmas.proofs.Lists.{all_append, all_map}
use Rattle.rt_lemmas.proofs.Texts.{decimal_few}
use Rattle.rt_ids.specs.Word.{IsName}
use Rattle.rt_ids.specs.declared.cell.CellRow.{CellRow}
use Rattle.rt_app.specs.declared.app.Shared.{Shared}
use Rattle.rt_app.specs.declared.app.Local.{Local}
use Rattle.rt_app.specs.declared.app.Mono.{Mono}
use Rattle.rt_app.specs.Tree.{Task, App}
use Rattle.rt_app.specs.Level.{is_software, levels, armed_messages}
use Rattle.rt_app.specs.Names.{HasNames}
use Rattle.rt_app.specs.Layout.{Cell, resource_cells, local_cells, free_cells, place_cells, task_cells, ready_room}
use Rattle.rt_app.specs.Layout.{ready_cells, timer_cell, timer_column, timer_cells, memory, layout, row_of}

abbrev IsBrief : Cell → Type 0
IsBrief cell = length cell.name ≤ 168

each_brief : {X : Type 0} (f : X → Cell) (xs : List X) → ((x : X) → IsBrief (f x)) → AllByRecursion IsBrief (map f xs)
each_brief f [] each = tt
each_brief f (x ∷ xs) each = (each x, each_brief f xs each)

many_brief : {X : Type 0} (f : X → List Cell) → ((x : X) → AllByRecursion IsBrief (f x)) → (xs : List X)
    → AllByRecursion IsBrief (flat_map f xs)
many_brief f each [] = tt
many_brief f each (x ∷ xs) = all_append IsBrief (f x) (flat_map f xs) (each x) (many_brief f each xs)

resources_brief : (r : ℕ) (ss : List Shared) → AllByRecursion (λ s. IsName s.name) ss
    → AllByRecursion IsBrief (resource_cells r ss)
resources_brief r [] named = tt
resources_brief r (s ∷ ss) named =
    let short = named.0.short in (omega (arith, short), resources_brief (r + 1) ss named.1)

locals_brief : (n : ℕ) (ls : List Local) → AllByRecursion (λ l. IsName l.name) ls
    → AllByRecursion IsBrief (local_cells n ls)
locals_brief n [] named = tt
locals_brief n (l ∷ ls) named =
    let short = named.0.short in
    (omega (arith, short, length-append (codes "local.") l.name), locals_brief (n + 1) ls named.1)

-- a word of at most six bytes, a name and a dot, and what is behind them
front_few : (word name : List ℕ) → length word ≤ 6 → length name ≤ 64 → length (word ++ name ++ codes ".") ≤ 71
front_few word name short named =
    omega (arith, short, named, length-append word name, length-append (word ++ name) (codes "."))

name_few : (name : List ℕ) → IsName name → length name ≤ 32
name_few name is = let short = is.short in omega (arith, short)

free_brief : (n : ℕ) (t : Task) → IsName t.name → AllByRecursion IsBrief (free_cells n t)
free_brief n t named =
    let front : List ℕ = codes "free." ++ t.name ++ codes "." in
    let few : length front ≤ 71 =
    front_few (codes "free.") t.name (omega arith) (let name = name_few t.name named in omega (arith, name)) in (
      omega (arith, few, length-append front (codes "count")),
      each_brief _ (range_with_len 0 t.capacity)
          (λ k. omega (arith, few, decimal_few k, length-append front (decimal k))),
    )

place_brief : (n : ℕ) (t : Task) → IsName t.name → (place : ℕ) → AllByRecursion IsBrief (place_cells n t place)
place_brief n t named place =
    let start : List ℕ = codes "input." ++ t.name ++ codes "." in
    let front : List ℕ = codes "input." ++ t.name ++ codes "." ++ decimal place ++ codes "." in
    let name : length t.name ≤ 32 = name_few t.name named in
    let few : length front ≤ 104 =
    omega (
      arith,
      name,
      decimal_few place,
      length-append (codes "input.") t.name,
      length-append (codes "input." ++ t.name) (codes "."),
      length-append start (decimal place),
      length-append (start ++ decimal place) (codes "."),
    ) in
    each_brief _ (range_with_len 0 t.args) (λ k. omega (arith, few, decimal_few k, length-append front (decimal k)))

queue_brief : (n : ℕ) (t : Task) → IsName t.name → (b : Bool) → AllByRecursion IsBrief
    (if b then free_cells n t ++ flat_map (place_cells n t) (range_with_len 0 t.capacity) else [])
queue_brief n t named true =
    all_append IsBrief (free_cells n t) (flat_map (place_cells n t) (range_with_len 0 t.capacity))
    (free_brief n t named) (many_brief (place_cells n t) (place_brief n t named) (range_with_len 0 t.capacity))
queue_brief n t named false = tt

tasks_brief : (n : ℕ) (ts : List Task) → AllByRecursion (λ t. IsName t.name) ts
    → AllByRecursion IsBrief (task_cells n ts)
tasks_brief n [] named = tt
tasks_brief n (t ∷ ts) named =
    all_append IsBrief
    (if is_software t then free_cells n t ++ flat_map (place_cells n t) (range_with_len 0 t.capacity) else [])
    (task_cells (n + 1) ts) (queue_brief n t named.0 (is_software t)) (tasks_brief (n + 1) ts named.1)

ready_brief : (app : App) (p : ℕ) → AllByRecursion IsBrief (ready_cells app p)
ready_brief app p =
    let front : List ℕ = codes "ready." ++ decimal p ++ codes "." in
    let few : length front ≤ 71 = front_few (codes "ready.") (decimal p) (omega arith) (decimal_few p) in (
      omega (arith, few, length-append front (codes "head")),
      (
        omega (arith, few, length-append front (codes "count")),
        each_brief _ (range_with_len 0 (ready_room app p))
            (λ k. omega (
              arith,
              few,
              decimal_few k,
              length-append (codes "at.") (decimal k),
              length-append front (codes "at." ++ decimal k),
            )),
      ),
    )

timer_brief : (name : List ℕ) → length name ≤ 100 → IsBrief (timer_cell name)
timer_brief name few = omega (arith, few, length-append (codes "timer.") name)

column_brief : (app : App) (name : List ℕ) → length name ≤ 10 → AllByRecursion IsBrief (timer_column app name)
column_brief app name few =
    each_brief _ (range_with_len 0 (armed_messages app))
    (λ k. timer_brief (name ++ codes "." ++ decimal k)
    (omega (
      arith,
      few,
      decimal_few k,
      length-append name (codes "."),
      length-append (name ++ codes ".") (decimal k),
    )))

timers_brief : (app : App) (o : Option Mono) → AllByRecursion IsBrief (timer_cells app o)
timers_brief app None = tt
timers_brief app (Some mono) =
    let handles = all_append IsBrief (timer_column app (codes "handle")) (timer_column app (codes "heap"))
    (column_brief app (codes "handle") (omega arith)) (column_brief app (codes "heap") (omega arith)) in
    let numbers = all_append IsBrief (timer_column app (codes "arming"))
    (timer_column app (codes "handle") ++ timer_column app (codes "heap"))
    (column_brief app (codes "arming") (omega arith)) handles in
    let instants = all_append IsBrief (timer_column app (codes "at"))
    (timer_column app (codes "arming") ++ (timer_column app (codes "handle") ++ timer_column app (codes "heap")))
    (column_brief app (codes "at") (omega arith)) numbers in (
      timer_brief (codes "count") (omega arith),
      (timer_brief (codes "armings") (omega arith), (timer_brief (codes "given") (omega arith), instants)),
    )

memory_brief : (app : App) → HasNames app → AllByRecursion IsBrief (memory app)
memory_brief app named =
    all_append IsBrief (resource_cells 0 app.shared) _ (resources_brief 0 app.shared named.shared)
    (all_append IsBrief (local_cells 0 app.locals) _ (locals_brief 0 app.locals named.locals)
    (all_append IsBrief (task_cells 0 app.tasks) _ (tasks_brief 0 app.tasks named.tasks)
    (all_append IsBrief (flat_map (ready_cells app) (levels app)) _
    (many_brief (ready_cells app) (ready_brief app) (levels app)) (timers_brief app app.mono))))

-- no name of a cell is longer than 168 bytes
pub names_brief : (app : App) → HasNames app
    → AllByRecursion (λ (cell : CellRow). length cell.name ≤ 168) (layout app).cells
names_brief app named =
    all_map row_of IsBrief (λ (cell : CellRow). length cell.name ≤ 168) (λ cell few. few) (memory app)
    (memory_brief app named)
