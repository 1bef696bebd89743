-- First values of an accepted application are words, so its image's file is its program, which runs as the image.
use Rattle.std.proofs.Common.{ℕ, zero, suc, ◌+◌, ◌^◌, ◌<◌, ◌≤◌, Bool, true, false, List, [], ◌∷◌, ◌++◌, codes}
use Rattle.std.proofs.Common.{decimal, flat_map, map, sym, subst, arith, Option, Some, None}
use Rattle.std.specs.Prelude.{if◌then◌else◌}
use Rattle.std.specs.List.{AllByRecursion, range_with_len}
use Rattle.rt_ids.specs.declared.cell.CellRow.{CellRow}
use Rattle.rt_ids.specs.declared.limits.TheConstants.{CAPACITY}
use Rattle.rt_lemmas.proofs.Lists.{all_append, all_map}
use Rattle.rt_app.specs.Accepted.{IsAccepted}
use Rattle.rt_app.specs.Layout.{Cell, free_cells, local_cells, memory, place_cells, ready_cells}
use Rattle.rt_app.specs.Layout.{ready_room, resource_cells, row_of, task_cells, timer_cells, timer_column}
use Rattle.rt_app.specs.Level.{armed_messages, is_software, levels}
use Rattle.rt_app.specs.Limits.{KeepsTaskLimits}
use Rattle.rt_app.specs.Tree.{App, Task}
use Rattle.rt_app.specs.declared.app.Local.{Local}
use Rattle.rt_app.specs.declared.app.Mono.{Mono}
use Rattle.rt_app.specs.declared.app.Shared.{Shared}
use Rattle.rt_build.specs.Image.{IsImageOf}
use Rattle.rt_code.specs.Image.{Image}
use Rattle.rt_native.specs.Program.{first_values}
use Rattle.rt_native_laws.proofs.Filed.{files_are_programs, flash_has_a_program}
use Rattle.rt_native_runs.specs.FromFile.{FilesRunAsImages}
use Rattle.rt_native_runs.proofs.Running.{programs_run_as_images}

-- a cell is a word at first
abbrev IsSmall : Cell → Type 0
IsSmall cell = cell.first < 2 ^ 32

all_of : {X Y : Type 0} (f : X → Y) (P : Y → Type 0) → ((x : X) → P (f x)) → (xs : List X)
    → AllByRecursion P (map f xs)
all_of f P each [] = tt
all_of f P each (x ∷ xs) = (each x, all_of f P each xs)

all_flat : {X Y : Type 0} (f : X → List Y) (P : Y → Type 0) → ((x : X) → AllByRecursion P (f x)) → (xs : List X)
    → AllByRecursion P (flat_map f xs)
all_flat f P each [] = tt
all_flat f P each (x ∷ xs) = all_append P (f x) (flat_map f xs) (each x) (all_flat f P each xs)

in_range : (a n bound : ℕ) → a + n ≤ bound → AllByRecursion (λ k. k < bound) (range_with_len a n)
in_range a zero bound l = tt
in_range a (suc n) bound l = (omega (arith, l), in_range (a + 1) n bound (omega (arith, l)))

resources_small : (r : ℕ) (xs : List Shared) → AllByRecursion (λ x. x.first < 2 ^ 32) xs
    → AllByRecursion IsSmall (resource_cells r xs)
resources_small r [] all = tt
resources_small r (x ∷ xs) all = (all.0, resources_small (r + 1) xs all.1)

locals_small : (n : ℕ) (xs : List Local) → AllByRecursion (λ x. x.first < 2 ^ 32) xs
    → AllByRecursion IsSmall (local_cells n xs)
locals_small n [] all = tt
locals_small n (x ∷ xs) all = (all.0, locals_small (n + 1) xs all.1)

free_small : (n : ℕ) (t : Task) → t.capacity ≤ CAPACITY → AllByRecursion IsSmall (free_cells n t)
free_small n t few = (
  omega (arith, few),
  all_map (λ k. record {
    name = (codes "free." ++ t.name ++ codes ".") ++ decimal k;
    first = k;
    home = _;
  }) (λ k. k < CAPACITY) IsSmall (λ k l. omega (arith, l)) (range_with_len 0 t.capacity)
      (in_range 0 t.capacity CAPACITY (omega (arith, few))),
)

tasks_small : (n : ℕ) (ts : List Task) → AllByRecursion KeepsTaskLimits ts
    → AllByRecursion IsSmall (task_cells n ts)
tasks_small n [] all = tt
tasks_small n (t ∷ ts) all =
    all_append IsSmall
    (if is_software t then free_cells n t ++ flat_map (place_cells n t) (range_with_len 0 t.capacity) else [])
    (task_cells (n + 1) ts) (by (is_software t)) (tasks_small (n + 1) ts all.1)
  where
    places : AllByRecursion IsSmall (flat_map (place_cells n t) (range_with_len 0 t.capacity))
    places =
        all_flat (place_cells n t) IsSmall
        (λ place. all_of _ IsSmall (λ k. omega arith) (range_with_len 0 t.args)) (range_with_len 0 t.capacity)

    by : (b : Bool) → AllByRecursion IsSmall
        (if b then free_cells n t ++ flat_map (place_cells n t) (range_with_len 0 t.capacity) else [])
    by true =
        all_append IsSmall (free_cells n t) (flat_map (place_cells n t) (range_with_len 0 t.capacity))
        (free_small n t all.0.most_capacity) places
    by false = tt

module _ (app : App) where
  ready_small : (p : ℕ) → AllByRecursion IsSmall (ready_cells app p)
  ready_small p =
      (omega arith, (omega arith, all_of _ IsSmall (λ k. omega arith) (range_with_len 0 (ready_room app p))))

  column_small : (name : List ℕ) → AllByRecursion IsSmall (timer_column app name)
  column_small name = all_of _ IsSmall (λ k. omega arith) (range_with_len 0 (armed_messages app))

  timer_small : (mono : Option Mono) → AllByRecursion IsSmall (timer_cells app mono)
  timer_small None = tt
  timer_small (Some mono) = (
    omega arith,
    (
      omega arith,
      (
        omega arith,
        all_append IsSmall (timer_column app (codes "at")) _ (column_small (codes "at"))
            (all_append IsSmall (timer_column app (codes "arming")) _ (column_small (codes "arming"))
            (all_append IsSmall (timer_column app (codes "handle")) _ (column_small (codes "handle"))
            (column_small (codes "heap")))),
      ),
    ),
  )

  memory_small : IsAccepted app → AllByRecursion IsSmall (memory app)
  memory_small accepted =
      all_append IsSmall (resource_cells 0 app.shared) _
      (resources_small 0 app.shared accepted.limits.shared_values)
      (all_append IsSmall (local_cells 0 app.locals) _ (locals_small 0 app.locals accepted.limits.local_values)
      (all_append IsSmall (task_cells 0 app.tasks) _ (tasks_small 0 app.tasks accepted.limits.tasks)
      (all_append IsSmall (flat_map (ready_cells app) (levels app)) _
      (all_flat (ready_cells app) IsSmall ready_small (levels app)) (timer_small app.mono))))

  firsts_small : (img : Image) → IsAccepted app → IsImageOf app img
      → AllByRecursion (λ word. word < 2 ^ 32) (first_values img)
  firsts_small img accepted is =
      all_append (λ word. word < 2 ^ 32) (map (λ cell. cell.first) img.cells) _
      (subst (λ (cells : List CellRow). AllByRecursion (λ word. word < 2 ^ 32) (map (λ cell. cell.first) cells))
      (sym is.tables.cells)
      (all_map (λ (cell : CellRow). cell.first) (λ cell. cell.first < 2 ^ 32) (λ word. word < 2 ^ 32) (λ cell h. h)
      (map row_of (memory app))
      (all_map row_of IsSmall (λ cell. cell.first < 2 ^ 32) (λ cell h. h) (memory app) (memory_small accepted))))
      (omega arith, (omega arith, tt))

pub files_run_as_images : FilesRunAsImages
files_run_as_images app img target accepted is_image built runnable chip low room wired no_functions m holds fresh =
    let all = flash_has_a_program target m in
    let start =
    files_are_programs img target all.0 m chip.flash chip.ram low no_functions room
    (firsts_small app img accepted is_image) holds fresh all.1 in
    record {
      program = all.0;
      is = all.1;
      runs = programs_run_as_images app img target all.0 accepted is_image built runnable chip room wired no_functions m
          start;
    }
