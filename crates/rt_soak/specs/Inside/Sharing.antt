-- Which runs each worker makes.
use Rattle.std.specs.Prelude.{◌≡◌, ℕ, ◌+◌, ◌*◌, ◌/◌, ◌≤◌, List, ◌++◌, length, map, Ok, Err}
use Rattle.std.specs.List.{AllByRecursion}
use Rattle.rt_ids.specs.Lists.{numbers_below}
use Rattle.rt_code.specs.Image.{Image}
use Rattle.rt_count.specs.Summary.{summary_of}
use Rattle.rt_soak.specs.Soak.{items_of_run}
use Rattle.rt_soak.specs.declared.run.Run.{Run}
use Rattle.rt_soak.specs.Inside.Totals.{WorkerRuns, IsSmall}
use Rattle.rt_soak.specs.declared.soaking.TheConstants.{MOST_RUNS}

-- the first run of a worker; any two workers' numbers of runs differ by at most one
abbrev pub first_run : ℕ → ℕ → ℕ → ℕ
first_run count workers worker = worker * count / workers

-- the run of a number
abbrev pub run_of : Image → List ℕ → ℕ → ℕ → Run
run_of image irqs number i = record { number = i; summary = summary_of 1 (items_of_run image irqs number i) }

-- these are the runs from one number up to another: those before it and these are those before the other
abbrev pub AreRuns : Image → List ℕ → ℕ → ℕ → ℕ → List Run → Type 0
AreRuns image irqs number first end runs =
    map (run_of image irqs number) (numbers_below first) ++ runs ≡ map (run_of image irqs number) (numbers_below end)

-- A worker answers its runs, or that it wanted memory.
abbrev pub IsShare : Image → List ℕ → (number count workers worker : ℕ) → WorkerRuns → Type 0
IsShare image irqs number count workers worker (Ok runs) =
    AreRuns image irqs number (first_run count workers worker) (first_run count workers (worker + 1)) runs.items
    × (length runs.items ≤ MOST_RUNS) × AllByRecursion IsSmall runs.items
IsShare image irqs number count workers worker (Err e) = Unit {0}
